-- Items as long as one begins: what was read was written.
use Rattle.std.proofs.Common.{◌≡◌, ℕ, zero, suc, ◌≤◌, Bool, false, List, [], ◌∷◌, length, Option, None, Ok, refl, ap, ◌∙◌, subst, inl, inr, arith}
use Rattle.std.specs.Prelude.{⊤}
use Rattle.jr_base.specs.declared.kind.Kind.{Kind}
use Rattle.jr_parse_laws.specs.Parsers.{first, Parser, many_from, many}
use Rattle.jr_parse_laws.proofs.Outcomes.{bind_ok, chosen, ok_is}
use Rattle.jr_parse_laws.proofs.Lists.{Shortens}

module _ {A : Type 0} (starts : Option Kind → Bool) (item : Parser A) (silent : starts None ≡ false) (shortens : Shortens item)
    (Is : A → Type 0) (write : A → List Kind → List Kind) (item_sound : (ts : List Kind) (y : A × List Kind) → item ts ≡ Ok y → Is y.0 × (ts ≡ write y.0 y.1)) where
  abbrev pub AreAll : List A → Type 0
  AreAll [] = ⊤
  AreAll (a ∷ all) = Is a × AreAll all

  abbrev pub write_each : List A → List Kind → List Kind
  write_each [] rest = rest
  write_each (a ∷ all) rest = write a (write_each all rest)

  pub record Repeated (ts : List Kind) (y : List A × List Kind) : Type 0 where
    pub are : AreAll y.0
    pub written : ts ≡ write_each y.0 y.1
    pub ended : starts (first y.1) ≡ false

  from_sound : (turns : ℕ) (ts : List Kind) (y : List A × List Kind) → length ts ≤ turns → many_from starts item turns ts ≡ Ok y → Repeated ts y
  from_sound zero [] y h e = subst (Repeated []) (ok_is e) (record { are = tt; written = refl; ended = silent })
  from_sound zero (k ∷ ts) y h e = absurd (omega arith)
  from_sound (suc turns) ts y h e =
      elim (chosen (starts (first ts)) _ _ _ e) [
        | inl t ↦
            (let a = bind_ok (item ts) _ y t.1 in
            let one = item_sound ts a.0 a.1 in
            let b = bind_ok (many_from starts item turns a.0.1) _ y a.2 in
            let shorter : length a.0.1 ≤ turns = (let l = shortens ts a.0.0 a.0.1 a.1 in omega arith) in
            let others = from_sound turns a.0.1 b.0 shorter b.1 in
            subst (Repeated ts) (ok_is b.2) (record { are = (one.0, others.are); written = one.1 ∙ ap (write a.0.0) others.written; ended = others.ended }))
        | inr t ↦ subst (Repeated ts) (ok_is t.1) (record { are = tt; written = refl; ended = t.0 })
      ]

  pub many_sound : (ts : List Kind) (y : List A × List Kind) → many starts item ts ≡ Ok y → Repeated ts y
  unfolding many
  many_sound ts y h = from_sound (length ts) ts y (omega arith) h
