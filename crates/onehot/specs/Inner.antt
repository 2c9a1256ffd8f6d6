-- Only proofs cite this: a reader of the public promises may skip it. What the laws of the one-hot kinds take of a struct of the kind: an accepted site and from 1 to 16 choices. Assumes nothing.
use Rattle.std.specs.Prelude.{ℕ, ◌≤◌, List}
use Rattle.links.specs.declared.Link.{Link}
use Rattle.links.specs.Survey.{IsSurvey}

-- an accepted site, and n from 1 to 16
pub record WithChoices (N n : ℕ) (ls : List Link) : Type 0 where
  pub survey : IsSurvey N ls
  pub low : 1 ≤ n
  pub high : n ≤ 16
