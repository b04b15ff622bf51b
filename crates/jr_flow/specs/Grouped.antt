-- Hops by the numbers of places, those of each place behind those of the one before.
use Rattle.std.specs.Prelude.{◌≡◌, ℕ, ◌+◌, List, [], ◌∷◌, ◌++◌, length}
use Rattle.jr_flow.specs.declared.hops.Hop as code
use Rattle.jr_flow.specs.declared.hops.Hops.{Hops}
use Rattle.jr_flow_defs.specs.States.{Hop}

abbrev pub firsts_of : Hops → List ℕ
firsts_of hops = hops.firsts.items

abbrev pub hops_in : Hops → List code.Hop
hops_in hops = hops.all.items

abbrev pub hop_seen : code.Hop → Hop ℕ
hop_seen h = record { to = h.to; is_throw = h.is_throw }

abbrev pub joined : List (List code.Hop) → List code.Hop
joined [] = []
joined (group ∷ groups) = group ++ joined groups

-- how many stand before those of each
abbrev pub starts_of : ℕ → List (List code.Hop) → List ℕ
starts_of before [] = []
starts_of before (group ∷ groups) = before ∷ starts_of (before + length group) groups

pub record AreGrouped (hops : Hops) (groups : List (List code.Hop)) : Type 0 where
  pub all : hops_in hops ≡ joined groups
  pub firsts : firsts_of hops ≡ starts_of 0 groups
