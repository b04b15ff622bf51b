-- What a loop keeps that reads items of the program: those so far as plain data, and those that are still to be read.
use Rattle.std.proofs.Common.{◌≡◌, ℕ, zero, suc, ◌<◌, Bool, true, false, cond, List, [], ◌∷◌, ◌++◌, drop, length, map, Option, None, Ok, Err, refl, sym, ap, ◌∙◌, subst, inl, inr, arith}
use Rattle.std.proofs.lemmas.List.{map-append}
use Rattle.jr_base.specs.declared.kind.Kind.{Kind}
use Rattle.jr_base.specs.declared.kind.Symbol.{Symbol}
use Rattle.jr_parse_laws.specs.declared.fault.Fault.{Fault}
use Rattle.jr_parse_laws.specs.Parsers.{Outcome, Parser, and_then, refuse, first, is_at, expect, begins_with, many_from, many, with_front, Fails, ◌>>◌}
use Rattle.jr_parse_laws.proofs.Outcomes.{and_then_alike, cond_same, chosen, err_ok}
use Rattle.jr_parse_laws.proofs.Lists.{Shortens, front_more, front_fails, front_done}
use Rattle.jr_parse_laws.proofs.Turns.{Keeps, behind_more, behind_fails, behind_done}

-- nothing was read so far
pub front_none : {A : Type 0} (o : Outcome (List A)) → o ≡ with_front [] o
front_none (Ok p) = refl
front_none (Err e) = refl

-- what is made of all of them is made of the front and those behind it
pub fronted : {A B : Type 0} (front : List A) (o : Outcome (List A)) (f : List A → Parser B) → and_then (with_front front o) f ≡ and_then o (λ all. f (front ++ all))
fronted front (Ok p) f = refl
fronted front (Err e) f = refl

-- what is read behind both is read behind the second
pub regrouped : {A B C : Type 0} (o : Outcome A) (f : A → Parser B) (g : B → Parser C) → and_then (and_then o f) g ≡ and_then o (λ a ts. and_then (f a ts) g)
regrouped (Ok p) f g = refl
regrouped (Err e) f g = refl

-- ---- items that take a token where one begins

abbrev pub Takes : {A : Type 0} → (Option Kind → Bool) → Parser A → Type 0
Takes {A} starts item = (ts : List Kind) (a : A) (rest : List Kind) → starts (first ts) ≡ true → item ts ≡ Ok (a, rest) → length rest < length ts

module _ {A : Type 0} (starts : Option Kind → Bool) (item : Parser A) where
  abbrev guarded : Parser A
  guarded ts = cond (starts (first ts)) (item ts) (refuse ts)

  from_guarded : (turns : ℕ) (ts : List Kind) → many_from starts item turns ts ≡ many_from starts guarded turns ts
  from_guarded zero ts = refl
  from_guarded (suc turns) ts =
      cond_same (starts (first ts)) _ _ (Ok ([], ts)) (λ h. rw h (and_then_alike (item ts) _ _ (λ a rest. ap (λ o. and_then o (λ all rest. Ok (a ∷ all, rest))) (from_guarded turns rest))))

  many_guarded : (ts : List Kind) → many starts item ts ≡ many starts guarded ts
  unfolding many
  many_guarded ts = from_guarded (length ts) ts

  guarded_is : (ts : List Kind) → starts (first ts) ≡ true → guarded ts ≡ item ts
  guarded_is ts h = rw h refl

  guarded_shortens : Takes starts item → Shortens guarded
  guarded_shortens takes ts a rest h =
      elim (chosen (starts (first ts)) _ _ _ h) [
        | inl t ↦ takes ts a rest t.0 t.1
        | inr t ↦ absurd (err_ok t.1)
      ]

module _ {A B : Type 0} (view : B → A) where
  with_one : {C : Type 0} (f : List A → C) (front : List B) (b : B) → f (map view front ++ view b ∷ []) ≡ f (map view (front ++ b ∷ []))
  with_one f front b = ap f (sym (map-append view front (b ∷ [])))

  module _ (s : Symbol) (p : Parser A) (keeps : Keeps p) where
    -- an item behind a symbol
    pub behind_one : (front : List B) (ts : List Kind) (b : B) (rest : List Kind) → is_at s ts ≡ true → p (drop 1 ts) ≡ Ok (view b, rest)
        → with_front (map view front) (many (begins_with s) (expect s >> p) ts) ≡ with_front (map view (front ++ b ∷ [])) (many (begins_with s) (expect s >> p) rest)
    behind_one front ts b rest h e = behind_more s p keeps (map view front) ts (view b) rest h e ∙ with_one (λ l. with_front l (many (begins_with s) (expect s >> p) rest)) front b

  module _ (starts : Option Kind → Bool) (item : Parser A) (silent : starts None ≡ false) (takes : Takes starts item) where
    -- an item that begins
    pub one_more : (front : List B) (ts : List Kind) (b : B) (rest : List Kind) → starts (first ts) ≡ true → item ts ≡ Ok (view b, rest)
        → with_front (map view front) (many starts item ts) ≡ with_front (map view (front ++ b ∷ [])) (many starts item rest)
    one_more front ts b rest h e =
        ap (with_front (map view front)) (many_guarded starts item ts)
        ∙ front_more starts (guarded starts item) silent (guarded_shortens starts item takes) (map view front) ts (view b) rest h (guarded_is starts item ts h ∙ e)
        ∙ ap (with_front (map view front ++ view b ∷ [])) (sym (many_guarded starts item rest))
        ∙ with_one (λ l. with_front l (many starts item rest)) front b

    pub one_fails : (front : List B) (ts : List Kind) (f : Fault) (new : List Kind) → starts (first ts) ≡ true → Fails (item ts) f new → Fails (with_front (map view front) (many starts item ts)) f new
    one_fails front ts f new h e =
        subst (λ (o : Outcome (List A)). Fails (with_front (map view front) o) f new) (sym (many_guarded starts item ts))
        (front_fails starts (guarded starts item) silent (guarded_shortens starts item takes) (map view front) ts f new h (subst (λ (o : Outcome A). Fails o f new) (sym (guarded_is starts item ts h)) e))

  pub no_more : (starts : Option Kind → Bool) (item : Parser A) (front : List B) (ts : List Kind) → starts (first ts) ≡ false → with_front (map view front) (many starts item ts) ≡ Ok (map view front, ts)
  no_more starts item front ts h = front_done starts item (map view front) ts h
