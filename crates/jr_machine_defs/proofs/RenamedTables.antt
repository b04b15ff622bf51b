-- A table of declarations and their copies gives a renaming.
use Rattle.std.proofs.Common.{◌≡◌, refl, sym, ap, ◌∙◌, ℕ, suc, ◌+◌, ◌<◌, Bool, true, false, cond, List, [], ◌∷◌, Option, Some, None, arith}
use Rattle.std.specs.Prelude.{unwrap_or}
use Rattle.jr_base.specs.declared.ids.DeclId.{DeclId}
use Rattle.jr_machine_defs.specs.Values.{same_decl}
use Rattle.jr_machine_defs.specs.Classes.{found_among}
use Rattle.jr_machine_defs.specs.Renamed.{IsRenaming, IsTable, part_above, apart, by_table}
use Rattle.jr_machine_defs.proofs.RenamedValues.{same_parts}

abbrev part_of : DeclId → ℕ
part_of d = d.part

abbrev cu_of : DeclId → ℕ
cu_of d = d.at.cu.0

abbrev node_of : DeclId → ℕ
node_of d = d.at.node.0

some_same : (a b : DeclId) → Some a ≡ Some b → a ≡ b
some_same a b e = ap (λ o. unwrap_or o a) e

none_some : (a : DeclId) → None ≡ Some a → ⊥
none_some a e = cc

-- ---- the parts of copies are below

below_on : (b : Bool) (here copy : DeclId) (rest : Option DeclId) (most : ℕ) → cond b (Some here) rest ≡ Some copy → (rest ≡ Some copy → copy.part < most) → copy.part < here.part + suc most
below_on true here copy rest most e h = let same : here.part ≡ copy.part = ap part_of (some_same here copy e) in omega (arith, same)
below_on false here copy rest most e h = let low : copy.part < most = h e in omega (arith, low)

part_below : (pairs : List (DeclId × DeclId)) (d copy : DeclId) → found_among pairs d ≡ Some copy → copy.part < part_above pairs
part_below [] d copy e = absurd (none_some copy e)
part_below (pair ∷ all) d copy e = below_on (same_decl pair.0 d) pair.1 copy (found_among all d) (part_above all) e (part_below all d copy)

-- ---- one to one

apart_same : (k : ℕ) (a b : DeclId) → apart k a ≡ apart k b → a ≡ b
apart_same k a b e =
    let part : a.part + k ≡ b.part + k = ap part_of e in
    let same : a.part ≡ b.part = omega (arith, part) in
    same_parts a b (ap cu_of e) (ap node_of e) same

not_apart : (k : ℕ) (copy d : DeclId) → copy.part < k → copy ≡ apart k d → ⊥
not_apart k copy d low e = let same : copy.part ≡ d.part + k = ap part_of e in omega (arith, low, same)

one_of : (pairs : List (DeclId × DeclId)) (a b : DeclId) (x y : Option DeclId) → found_among pairs a ≡ x → found_among pairs b ≡ y
    → ((a b copy : DeclId) → found_among pairs a ≡ Some copy → found_among pairs b ≡ Some copy → a ≡ b)
    → unwrap_or x (apart (part_above pairs) a) ≡ unwrap_or y (apart (part_above pairs) b) → a ≡ b
one_of pairs a b None None e h one same = apart_same (part_above pairs) a b same
one_of pairs a b (Some c) None e h one same = absurd (not_apart (part_above pairs) c b (part_below pairs a c e) same)
one_of pairs a b None (Some d) e h one same = absurd (not_apart (part_above pairs) d a (part_below pairs b d h) (sym same))
one_of pairs a b (Some c) (Some d) e h one same = one a b d (e ∙ ap Some same) h

pub copied : (pairs : List (DeclId × DeclId)) (d copy : DeclId) → found_among pairs d ≡ Some copy → by_table pairs d ≡ copy
copied pairs d copy e = ap (λ o. unwrap_or o (apart (part_above pairs) d)) e

pub table_renames : (pairs : List (DeclId × DeclId)) → IsTable pairs → IsRenaming (by_table pairs)
table_renames pairs h = record {
  one_to_one = λ a b same. one_of pairs a b (found_among pairs a) (found_among pairs b) refl refl h.one_to_one same;
  keeps_own = λ d own. copied pairs d d (h.has_own d own);
}
