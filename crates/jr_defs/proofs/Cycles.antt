-- Which types are settled, and what makes a cycle.
use Rattle.std.proofs.Common.{◌≡◌, ◌⊎◌, ℕ, refl, sym, subst, inl, inr}
use Rattle.jr_tree.specs.Rows.{Rows}
use Rattle.jr_defs.specs.Referents.{Table}
use Rattle.jr_defs.specs.Declarations.{IsType}
use Rattle.jr_defs.specs.Enclosing.{DeclaredIn}
use Rattle.jr_defs.specs.Headers.{NamesHeader, Meets, IsSettled}
use Rattle.jr_defs.specs.Binding.{IsSettledPart, OfHeaders, HasCycle}
use Rattle.jr_defs.specs.Formed.{IsFormed}

pub bare_settled : (p : Rows) (t u : Table) (c : ℕ) → ((n : ℕ) → NamesHeader p c n → ⊥) → ((e : ℕ) → DeclaredIn p e c → IsSettled p t u e) → IsSettled p t u c
bare_settled p t u c bare out = IsSettled.settled out (λ s m. absurd (bare m.row m.header))

-- where all types are settled nothing is left out of the table
pub settled_part_whole : (p : Rows) (t u : Table) → IsFormed p → ((c : ℕ) → IsType p c → IsSettled p t u c) → IsSettledPart p t u → (o : ℕ) → u o ≡ t o
settled_part_whole p t u formed all part o = part.kept o (λ c h. all c (formed.header c o h))

module _ (p : Rows) (t u : Table) (a b : ℕ) (to_b : Meets p t u a b) (to_a : Meets p t u b a) where
  pub never : (c : ℕ) → (c ≡ a) ⊎ (c ≡ b) → IsSettled p t u c → ⊥
  never c (inl e) (IsSettled.settled out met) = never b (inr refl) (met b (subst (λ k. Meets p t u k b) (sym e) to_b))
  never c (inr e) (IsSettled.settled out met) = never a (inl refl) (met a (subst (λ k. Meets p t u k a) (sym e) to_a))

pub mutual_headers : (p : Rows) (t : Table) (a b : ℕ) (h : OfHeaders p t) → IsType p a → Meets p t h.settled_part a b → Meets p t h.settled_part b a → HasCycle p
mutual_headers p t a b h k to_b to_a = record { table = t; of_headers = h; on = a; type = k; unsettled = λ s. never p t h.settled_part a b to_b to_a a (inl refl) s }
