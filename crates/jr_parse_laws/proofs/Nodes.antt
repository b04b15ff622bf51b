-- A tree that begins with a token of its own and has a part behind it, one level deeper.
use Rattle.std.proofs.Common.{◌≡◌, ℕ, suc, ◌<◌, cond, ltb, List, ◌∷◌, Ok, Err, refl, sym, ap, ◌∙◌, subst, inl, inr, ⊎_elim, arith}
use Rattle.std.proofs.lemmas.Bool.{ltb-true, lt-ltb}
use Rattle.jr_base.specs.declared.kind.Kind.{Kind}
use Rattle.jr_parse_laws.specs.declared.fault.Fault.{Fault}
use Rattle.jr_parse_laws.specs.declared.fault.Fault.TheVariants.{TooDeep}
use Rattle.jr_parse_laws.specs.Parsers.{first, Parser, and_then}
use Rattle.jr_parse_laws.specs.Viable.{Stuck}
use Rattle.jr_parse_laws.proofs.Outcomes.{bind_ok, chosen, ok_is, err_is, err_ok, ok_err, Before, After, stops}
use Rattle.jr_parse_laws.proofs.Stops.{next, stuck_within, deep_beside, leading_nothing}
use Rattle.jr_parse_laws.proofs.Exact.{Rule}

module _ {A B : Type 0} (k : Kind) (part : Rule A) (tree : A → B) (Is : ℕ → B → Type 0) (write : B → List Kind → List Kind) (read : ℕ → Parser B)
    (spelled : (a : A) (rest : List Kind) → write (tree a) rest ≡ k ∷ part.write a rest)
    (reads : (room : ℕ) (ts : List Kind) → read (suc room) (k ∷ ts) ≡ cond (ltb 0 room) (and_then (part.read room ts) (λ a ts. Ok (tree a, ts))) (Err (TooDeep, k ∷ ts)))
    (can : (room : ℕ) → 0 < room → part.Can room)
    (is : (room : ℕ) (a : A) → part.Is room a → Is (suc room) (tree a)) where
  pub node_complete : (room : ℕ) (a : A) (rest : List Kind) → 0 < room → part.Is room a → part.ends a (first rest) → read (suc room) (write (tree a) rest) ≡ Ok (tree a, rest)
  node_complete room a rest some ia ended =
      ap (read (suc room)) (spelled a rest) ∙ reads room (part.write a rest) ∙ rw (lt-ltb 0 room some, part.exact.complete room a rest ia ended) refl

  pub node_sound : (room : ℕ) (ts : List Kind) (y : B × List Kind) → read (suc room) (k ∷ ts) ≡ Ok y → (a : A × List Kind) × part.Is room a.0 × (k ∷ ts ≡ write (tree a.0) a.1) × part.ends a.0 (first a.1) × ((tree a.0, a.1) ≡ y)
  node_sound room ts y h =
      ⊎_elim
      (λ t.
      let a = bind_ok (part.read room ts) _ y t.1 in
      let found = part.exact.sound room ts a.0 a.1 in
      (a.0, found.is, ap (λ ts. k ∷ ts) found.written ∙ sym (spelled a.0.0 a.0.1), found.ended, ok_is a.2))
      (λ t. absurd (err_ok t.1))
      (chosen (ltb 0 room) _ _ _ (sym (reads room ts) ∙ h))

  pub node_stuck : (room : ℕ) (ts : List Kind) (stop : Fault × List Kind) (other : B) (rest : List Kind → List Kind) → ((z : List Kind) → write other z ≡ rest z) → Is (suc room) other
      → read (suc room) (k ∷ ts) ≡ Err stop → Stuck Is write read (suc room) (k ∷ ts) stop.0 stop.1
  node_stuck room ts stop other rest other_spelled other_is h =
      elim (chosen (ltb 0 room) _ _ _ (sym (reads room ts) ∙ h)) [
        | inl t ↦
            (elim (stops (part.read room ts) _ stop t.1) [
              | Before e ↦
                  stuck_within room ts stop.0 stop.1 (λ ts. k ∷ ts) (record { alike = λ a. next k a }) tree (λ z. z) spelled (λ r a ia. (suc r, is r a ia)) (λ a ia. is room a ia)
                  (λ r us w le same i. reads r us ∙ rw (lt-ltb 0 r (let some = ltb-true 0 room t.0 in omega arith), i) refl)
                  (part.exact.stuck room ts stop (can room (ltb-true 0 room t.0)) e)
              | After a rest e d ↦ absurd (ok_err d)
            ])
        | inr t ↦
            (let least = part.exact.sample 1 (can 1 (omega arith)) in
            subst (λ (stop : Fault × List Kind). Stuck Is write read (suc room) (k ∷ ts) stop.0 stop.1) (err_is t.1)
            (deep_beside (suc room) k ts (λ ts. ts) leading_nothing other rest other_spelled other_is
            2 (tree least.0) (part.write least.0) (spelled least.0) (is 1 least.0 least.1)
            (λ w. reads room w ∙ rw t.0 refl)))
      ]
