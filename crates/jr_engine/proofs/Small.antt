-- Texts that are small.
use Rattle.std.proofs.Common.{ℕ, ◌≤◌, List, [], ◌∷◌, ◌++◌, length, arith}
use Rattle.jr_engine.specs.Texts.{AreSmall}

pub one_more : (files : List (List ℕ × List ℕ)) (path text : List ℕ) → AreSmall files → length text ≤ 67108864 → AreSmall (files ++ (path, text) ∷ [])
one_more [] path text small few = (omega (arith, few), tt)
one_more (file ∷ files) path text small few = (small.0, one_more files path text small.1 few)
