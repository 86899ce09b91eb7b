pub mod BitLaws
mod BoundLaws
mod ExclusiveLaws
mod ProductLaws
mod RecogniseLaws
mod SumLaws
mod TreeLaws
