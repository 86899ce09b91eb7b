use Rattle.lookup_record.proofs.bus.LookupBus.name.Goals as goal

pub returns : goal.returns
returns c = c.self.view_is
