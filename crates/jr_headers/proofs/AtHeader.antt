-- A table that is right at the header of one type, by what lookup gives under it.
use Rattle.std.proofs.Common.{◌≡◌, ◌⊎◌, sym, ◌∙◌, subst, inl, inr, arith, ℕ, ◌+◌, ◌<◌, ◌≤◌}
use Rattle.jr_tree.specs.declared.label.ImportKind.{ImportKind}
use Rattle.jr_tree.specs.declared.label.Label.TheVariants as is
use Rattle.jr_tree.specs.Rows.{Rows, label}
use Rattle.jr_defs.specs.Referents.{Table}
use Rattle.jr_defs.specs.Constants.{HasConstantForm}
use Rattle.jr_defs.specs.Lookup.{Look}
use Rattle.jr_defs.specs.Headers.{NamesHeader, IsIdentifierOf, IsFirstOf, IsLookedForIn}
use Rattle.jr_defs.specs.Binding.{IsOfHeader}
use Rattle.jr_defs.specs.Formed.{IsFormed}
use Rattle.jr_headers.specs.Rounds.{look_type, name_or_same}
use Rattle.jr_defs.proofs.Scoping.{EndsSo}
use Rattle.jr_headers.proofs.Names.{import_names_none, inner_names_none, import_seeks}
use Rattle.jr_headers.proofs.Rounding.{header_look, import_look}
use Rattle.jr_headers.proofs.Given.{at_name, at_other}
use Rattle.jr_headers.proofs.OneHeader.{LookedHere}

module _ (p : Rows) (formed : IsFormed p) (v : Table) (ends : EndsSo p v) (c : ℕ) (inner : (n m : ℕ) → NamesHeader p c n → IsIdentifierOf p n m → n < m → v m ≡ look_type p v m)
    (imports : (n m i k : ℕ) → NamesHeader p c n → IsFirstOf p n m → IsLookedForIn p v m i → IsIdentifierOf p (i + 1) k → v k ≡ look_type p v k) where
  abbrev x : Table
  x = name_or_same p v

  side : (a b : ℕ) → a ≤ b → (a ≡ b) ⊎ (a < b)
  side a b le = grind arith

  import_none : (i m d : ℕ) (form : ImportKind) → label p i ≡ is.Import form → IsIdentifierOf p (i + 1) m → NamesHeader p d m → ⊥
  import_none i m d form e q w = elim (side (i + 1) m q.from) [
    | inl z ↦ import_names_none p formed i d form e (subst (NamesHeader p d) (sym z) w)
    | inr lt ↦ inner_names_none p formed (i + 1) m d (import_seeks p formed i form e) q lt w
  ]

  other : (o : ℕ) → ((e : ℕ) → NamesHeader p e o → ⊥) → v o ≡ x o
  other o no' = sym (at_other p (look_type p v o) (v o) o no')

  looked : (o : ℕ) → IsOfHeader p v c o → Look p v (HasConstantForm p v) o (x o)
  looked o (IsOfHeader.own {n = n} h i) = elim (side n o i.from) [
    | inl e ↦ subst (Look p v (HasConstantForm p v) o) (sym (at_name p (look_type p v o) (v o) c o (subst (NamesHeader p c) e h))) (header_look p formed v (HasConstantForm p v) c n o h i)
    | inr lt ↦ subst (Look p v (HasConstantForm p v) o) (sym (sym (other o (λ d w. inner_names_none p formed n o d (formed.header_name c n h) i lt w)) ∙ inner n o h i lt))
        (header_look p formed v (HasConstantForm p v) c n o h i)
  ]
  looked o (IsOfHeader.import {n = n} {m = m} {i = i} h f w q) = subst (Look p v (HasConstantForm p v) o)
      (sym (sym (other o (λ d z. import_none i o d w.form w.import.import q z)) ∙ imports n m i o h f w q)) (import_look p formed v (HasConstantForm p v) i o w.form w.import.import q)

  named : EndsSo p x
  named i d form e w = ends i d form e (record { level = w.level; refers = other (i + 1) (λ c h. import_names_none p formed i c form e h) ∙ w.refers; type = w.type })

  pub looked_here : LookedHere p c x v
  looked_here = record { looked = looked; others = other; named = named }
