use Rattle.std.proofs.Common.{◌≡◌, ◌-◌, ◌++◌, ◌∙◌, ℕ, List, ap, append_assoc, drop, length, sym, take, take-append-drop}
use Rattle.std.proofs.KnownBytes.{Appends-kept, Appends-trans}
use Rattle.std.proofs.lemmas.List.{take_rest}
use Rattle.program_ending.proofs.answer.write_front.Goals as goal
use Rattle.program_ending.proofs.answer.write_front.Goals.{in-Ok, in-Err}

-- the front of what is left goes to what is done
moves_front : (all done left : List ℕ) (n : ℕ) → all ≡ done ++ left → all ≡ (done ++ take n left) ++ take (length left - n) (drop n left)
moves_front all done left n split =
    split ∙ (ap (λ l. done ++ l) (sym (take-append-drop n left)) ∙ (sym (append_assoc done (take n left) (drop n left)) ∙ ap (λ l. (done ++ take n left) ++ l) (sym (take_rest left n))))

pub loop-preserved : goal.loop-preserved
loop-preserved g c =
    let (done, split, appended) = c.loop.invariant in
    elim c.match-write.branch [
      | in-Ok w ↦
          let left = c.loop.rest.now in
          let n = w.in-Ok.taken in
          rw w.rest-is (done ++ take n left, moves_front _ done left n split, Appends-trans _ _ _ _ _ appended w.in-Ok.ensures.bytes)
      | in-Err w ↦ rw w.rest-is (done, split, Appends-kept _ _ _ _ appended w.in-Err.ensures.bytes)
    ]
