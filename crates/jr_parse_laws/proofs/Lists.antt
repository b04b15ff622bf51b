-- Lists: items as long as one begins.
use Rattle.std.proofs.Common.{◌≡◌, ℕ, zero, suc, ◌+◌, ◌-◌, zero-add, ◌<◌, ◌≤◌, max, Bool, true, false, List, [], ◌∷◌, ◌++◌, length, Option, None, Ok, Err, refl, sym, ap, ◌∙◌, subst, inl, inr, arith, append_assoc, append-nil, Result}
use Rattle.std.specs.Prelude.{⊤}
use Rattle.jr_base.specs.declared.kind.Kind.{Kind}
use Rattle.jr_parse_laws.specs.declared.fault.Fault.{Fault}
use Rattle.jr_parse_laws.specs.declared.fault.Fault.TheVariants.{NoTree, TooDeep, OutOfMemory}
use Rattle.jr_parse_laws.specs.Parsers.{first, Parser, and_then, many_from, many, with_front, Fails}
use Rattle.jr_parse_laws.specs.Viable.{Stuck}
use Rattle.jr_parse_laws.proofs.Outcomes.{bind_ok, chosen, cond_same, and_then_when, ok_is, ok_err, Before, After, stops}
use Rattle.jr_parse_laws.proofs.Stops.{stuck_beside, leading_nothing, leading_by}
use Rattle.jr_parse_laws.proofs.Exact.{Parsed, Exact, Rule}
use Rattle.jr_parse_laws.proofs.Options.{Begins}

-- an item takes a token
abbrev pub Shortens : {A : Type 0} → Parser A → Type 0
Shortens {A} item = (ts : List Kind) (a : A) (rest : List Kind) → item ts ≡ Ok (a, rest) → length rest < length ts

-- ---- a turn, and the last

module _ {A : Type 0} (starts : Option Kind → Bool) (item : Parser A) where
  from_over : (turns : ℕ) (ts : List Kind) → starts (first ts) ≡ false → many_from starts item turns ts ≡ Ok ([], ts)
  from_over zero ts h = refl
  from_over (suc turns) ts h = rw h refl

  pub many_over : (ts : List Kind) → starts (first ts) ≡ false → many starts item ts ≡ Ok ([], ts)
  unfolding many
  many_over ts h = from_over (length ts) ts h

  module _ (silent : starts None ≡ false) (shortens : Shortens item) where
    more_turns : (turns : ℕ) (ts : List Kind) → length ts ≤ turns → many_from starts item (suc turns) ts ≡ many_from starts item turns ts
    more_turns zero [] h = rw silent refl
    more_turns zero (k ∷ ts) h = absurd (omega arith)
    more_turns (suc turns) ts h =
        cond_same (starts (first ts)) _ _ (Ok ([], ts)) (λ _. and_then_when (item ts) _ _ (λ a rest e.
        let l = shortens ts a rest e in
        ap (λ o. and_then o (λ all rest. Ok (a ∷ all, rest))) (more_turns turns rest (omega arith))))

    enough_turns : (d : ℕ) (ts : List Kind) → many_from starts item (d + length ts) ts ≡ many_from starts item (length ts) ts
    enough_turns zero ts = rw zero-add refl
    enough_turns (suc d) ts = let e : suc d + length ts ≡ suc (d + length ts) = omega arith in ap (λ n. many_from starts item n ts) e ∙ more_turns (d + length ts) ts (omega arith) ∙ enough_turns d ts

    -- an item is read while one begins
    pub many_turn : (ts : List Kind) → starts (first ts) ≡ true → many starts item ts ≡ and_then (item ts) (λ a rest. and_then (many starts item rest) (λ all rest. Ok (a ∷ all, rest)))
    unfolding many
    many_turn [] h = absurd (let e = sym silent ∙ h in cc)
    many_turn (k ∷ ts) h =
        rw h (and_then_when (item (k ∷ ts)) _ _ (λ a rest e.
        let l = shortens (k ∷ ts) a rest e in
        let d : length ts ≡ (length ts - length rest) + length rest = omega arith in
        ap (λ o. and_then o (λ all rest. Ok (a ∷ all, rest))) (ap (λ n. many_from starts item n rest) d ∙ enough_turns (length ts - length rest) rest)))

-- ---- what a loop keeps: the items so far, and those that are still to be read

pub front_alike : {A : Type 0} (front : List A) (o : Result (List A × List Kind) (Fault × List Kind)) (a : A) → with_front front (and_then o (λ all rest. Ok (a ∷ all, rest))) ≡ with_front (front ++ a ∷ []) o
front_alike front (Ok p) a = ap (λ (all : List _). Ok (all, p.1)) (sym (append_assoc front (a ∷ []) p.0))
front_alike front (Err e) a = refl

module _ {A : Type 0} (starts : Option Kind → Bool) (item : Parser A) (silent : starts None ≡ false) (shortens : Shortens item) where
  pub front_more : (front : List A) (ts : List Kind) (a : A) (rest : List Kind) → starts (first ts) ≡ true → item ts ≡ Ok (a, rest)
      → with_front front (many starts item ts) ≡ with_front (front ++ a ∷ []) (many starts item rest)
  front_more front ts a rest h e = rw (many_turn starts item silent shortens ts h, e) (front_alike front (many starts item rest) a)

  pub front_fails : (front : List A) (ts : List Kind) (f : Fault) (new : List Kind) → starts (first ts) ≡ true → Fails (item ts) f new → Fails (with_front front (many starts item ts)) f new
  front_fails front ts NoTree new h e = rw (many_turn starts item silent shortens ts h, e) refl
  front_fails front ts TooDeep new h e = rw (many_turn starts item silent shortens ts h, e) refl
  front_fails front ts OutOfMemory new h e = tt

pub front_done : {A : Type 0} (starts : Option Kind → Bool) (item : Parser A) (front : List A) (ts : List Kind) → starts (first ts) ≡ false → with_front front (many starts item ts) ≡ Ok (front, ts)
front_done starts item front ts h = rw (many_over starts item ts h) (ap (λ (all : List _). Ok (all, ts)) (append-nil front))

-- ---- items as long as one begins

module _ {A : Type 0} (p : Rule A) (starts : Option Kind → Bool) (silent : starts None ≡ false) (begins : Begins p starts)
    (longer : (room : ℕ) (a : A) (rest : List Kind) → p.Is room a → length rest < length (p.write a rest))
    (meets : (a : A) (o : Option Kind) → starts o ≡ true → p.ends a o) where
  abbrev pub are_items : ℕ → List A → Type 0
  are_items room [] = ⊤
  are_items room (a ∷ all) = p.Is room a × are_items room all

  abbrev pub write_items : List A → List Kind → List Kind
  write_items [] rest = rest
  write_items (a ∷ all) rest = p.write a (write_items all rest)

  -- what cannot follow the last item
  abbrev pub last_ends : List A → Option Kind → Type 0
  last_ends [] o = ⊤
  last_ends (a ∷ []) o = p.ends a o
  last_ends (a ∷ b ∷ all) o = last_ends (b ∷ all) o

  abbrev pub items_end : List A → Option Kind → Type 0
  items_end all o = (starts o ≡ false) × last_ends all o

  abbrev pub read_items : ℕ → Parser (List A)
  read_items room = many starts (p.read room)

  pub item_shortens : (room : ℕ) → Shortens (p.read room)
  item_shortens room ts a rest e =
      let found = p.exact.sound room ts (a, rest) e in
      let l = longer room a rest found.is in
      let same = ap (λ (l : List Kind). length l) found.written in
      omega arith

  items_longer : (room : ℕ) (all : List A) (rest : List Kind) → are_items room all → length rest ≤ length (write_items all rest)
  items_longer room [] rest is = omega arith
  items_longer room (a ∷ all) rest is = let h = longer room a (write_items all rest) is.0 in let i = items_longer room all rest is.1 in omega arith

  after_item : (room : ℕ) (a : A) (all : List A) (rest : List Kind) → are_items room all → last_ends (a ∷ all) (first rest) → p.ends a (first (write_items all rest))
  after_item room a [] rest is h = h
  after_item room a (b ∷ all) rest is h = meets a (first (p.write b (write_items all rest))) (begins room b (write_items all rest) is.0)

  rest_ends : (a : A) (all : List A) (o : Option Kind) → last_ends (a ∷ all) o → last_ends all o
  rest_ends a [] o h = tt
  rest_ends a (b ∷ all) o h = h

  joined_ends : (a : A) (ts : List Kind) (all : List A) (rest : List Kind) → p.ends a (first ts) → ts ≡ write_items all rest → last_ends all (first rest) → last_ends (a ∷ all) (first rest)
  joined_ends a ts [] rest h e g = subst (λ (ts : List Kind). p.ends a (first ts)) e h
  joined_ends a ts (b ∷ all) rest h e g = g

  items_complete : (room : ℕ) (all : List A) (rest : List Kind) → are_items room all → items_end all (first rest) → read_items room (write_items all rest) ≡ Ok (all, rest)
  items_complete room [] rest is ended = many_over starts (p.read room) rest ended.0
  items_complete room (a ∷ all) rest is ended =
      many_turn starts (p.read room) silent (item_shortens room) (p.write a (write_items all rest)) (begins room a (write_items all rest) is.0)
      ∙ rw (
        p.exact.complete room a (write_items all rest) is.0 (after_item room a all rest is.1 ended.1),
        items_complete room all rest is.1 (ended.0, rest_ends a all (first rest) ended.1),
      ) refl

  abbrev Found : ℕ → List Kind → List A × List Kind → Type 0
  Found = Parsed are_items write_items items_end

  from_sound : (room turns : ℕ) (ts : List Kind) (y : List A × List Kind) → length ts ≤ turns → many_from starts (p.read room) turns ts ≡ Ok y → Found room ts y
  from_sound room zero [] y h e = subst (Found room []) (ok_is e) (record { is = tt; written = refl; ended = (silent, tt) })
  from_sound room zero (k ∷ ts) y h e = absurd (omega arith)
  from_sound room (suc turns) ts y h e =
      elim (chosen (starts (first ts)) _ _ _ e) [
        | inl t ↦
            (let a = bind_ok (p.read room ts) _ y t.1 in
            let one = p.exact.sound room ts a.0 a.1 in
            let b = bind_ok (many_from starts (p.read room) turns a.0.1) _ y a.2 in
            let shorter : length a.0.1 ≤ turns = (let l = item_shortens room ts a.0.0 a.0.1 a.1 in omega arith) in
            let others = from_sound room turns a.0.1 b.0 shorter b.1 in
            subst (Found room ts) (ok_is b.2)
            (record {
              is = (one.is, others.is);
              written = one.written ∙ ap (p.write a.0.0) others.written;
              ended = (others.ended.0, joined_ends a.0.0 a.0.1 b.0.0 b.0.1 one.ended others.written others.ended.1);
            }))
        | inr t ↦ subst (Found room ts) (ok_is t.1) (record { is = tt; written = refl; ended = (t.0, tt) })
      ]

  items_sound : (room : ℕ) (ts : List Kind) (y : List A × List Kind) → read_items room ts ≡ Ok y → Found room ts y
  unfolding many
  items_sound room ts y h = from_sound room (length ts) ts y (omega arith) h

  items_front : (all : List A) (front rest : List Kind) → write_items all (front ++ rest) ≡ write_items all front ++ rest
  items_front [] front rest = refl
  items_front (a ∷ all) front rest = ap (p.write a) (items_front all front rest) ∙ p.exact.front a (write_items all front) rest

  items_wider : (room other : ℕ) (all : List A) → room ≤ other → are_items room all → are_items other all
  items_wider room other [] le is = tt
  items_wider room other (a ∷ all) le is = (p.exact.wider room other a le is.0, items_wider room other all le is.1)

  abbrev ItemsStuck : ℕ → List Kind → Fault × List Kind → Type 0
  ItemsStuck room ts stop = Stuck are_items write_items read_items room ts stop.0 stop.1

  from_stuck : (room turns : ℕ) (ts : List Kind) (stop : Fault × List Kind) → p.Can room → many_from starts (p.read room) turns ts ≡ Err stop → ItemsStuck room ts stop
  from_stuck room zero ts stop can h = absurd (ok_err h)
  from_stuck room (suc turns) ts stop can h =
      elim (chosen (starts (first ts)) _ _ _ h) [
        | inl t ↦
            (elim (stops (p.read room ts) _ stop t.1) [
              | Before e ↦
                  stuck_beside room ts stop.0 stop.1 (λ ts. ts) leading_nothing (λ a. a ∷ []) (λ z. z) (λ a z. refl) (λ r a is. (r, (is, tt))) (λ a is. (is, tt))
                  (λ r us w le same i. many_turn starts (p.read r) silent (item_shortens r) us (sym (ap starts same) ∙ t.0) ∙ rw i refl)
                  (p.exact.stuck room ts stop can e)
              | After a rest e d ↦
                  (let found = p.exact.sound room ts (a, rest) e in
                  elim (stops (many_from starts (p.read room) turns rest) _ stop d) [
                    | Before i ↦
                        subst (λ ts. ItemsStuck room ts stop) (sym found.written)
                        (stuck_beside room rest stop.0 stop.1 (p.write a) (leading_by p.write p.exact.front a) (λ all. a ∷ all) (λ z. z) (λ all z. refl)
                        (λ r all is. (max r room, (p.exact.wider room (max r room) a (omega arith) found.is, items_wider r (max r room) all (omega arith) is)))
                        (λ all is. (found.is, is))
                        (λ r us w le same j.
                        many_turn starts (p.read r) silent (item_shortens r) (p.write a us) (begins room a us found.is)
                        ∙ rw (p.exact.complete r a us (p.exact.wider room r a le found.is) (subst (p.ends a) same found.ended), j) refl)
                        (from_stuck room turns rest stop can i))
                    | After b ts i d ↦ absurd (ok_err d)
                  ])
            ])
        | inr t ↦ absurd (ok_err t.1)
      ]

  items_stuck : (room : ℕ) (ts : List Kind) (stop : Fault × List Kind) → p.Can room → read_items room ts ≡ Err stop → ItemsStuck room ts stop
  unfolding many
  items_stuck room ts stop can h = from_stuck room (length ts) ts stop can h

  pub items_exact : Exact p.Can are_items write_items items_end read_items
  items_exact = record {
    complete = items_complete;
    sound = items_sound;
    stuck = items_stuck;
    front = items_front;
    wider = items_wider;
    sample = λ room can. ([], tt);
  }

  abbrev pub list_of : Rule (List A)
  list_of = record { Can = p.Can; Is = are_items; write = write_items; ends = items_end; read = read_items; exact = items_exact }
