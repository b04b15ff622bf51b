-- One of two parts, told apart by the next token; and a part that makes another tree.
use Rattle.std.proofs.Common.{◌≡◌, ℕ, ◌≤◌, Bool, false, cond, List, ◌++◌, Option, Ok, Err, refl, sym, ap, ◌∙◌, subst, ◌⊎◌, inl, inr, ⊎_elim}
use Rattle.jr_base.specs.declared.kind.Kind.{Kind}
use Rattle.jr_parse_laws.specs.declared.fault.Fault.{Fault}
use Rattle.jr_parse_laws.specs.Parsers.{first, Parser, and_then}
use Rattle.jr_parse_laws.specs.Viable.{Stuck}
use Rattle.jr_parse_laws.proofs.Outcomes.{bind_ok, chosen, ok_is, ok_err, Before, After, stops}
use Rattle.jr_parse_laws.proofs.Stops.{stuck_beside, leading_nothing}
use Rattle.jr_parse_laws.proofs.Exact.{Parsed, Exact, Rule}
use Rattle.jr_parse_laws.proofs.Options.{Begins}

-- ---- one of two

-- with the token after it, a part begins with no token that tells the other
abbrev pub BeginsElse : {B : Type 0} → Rule B → (Option Kind → Bool) → Type 0
BeginsElse {B} q starts = (room : ℕ) (b : B) (rest : List Kind) → q.Is room b → starts (first (q.write b rest)) ≡ false

module _ {A B : Type 0} (p : Rule A) (q : Rule B) (starts : Option Kind → Bool) (begins : Begins p starts) (begins_else : BeginsElse q starts) where
  abbrev pub is_either : ℕ → A ⊎ B → Type 0
  is_either room (inl a) = p.Is room a
  is_either room (inr b) = q.Is room b

  abbrev pub write_either : A ⊎ B → List Kind → List Kind
  write_either (inl a) rest = p.write a rest
  write_either (inr b) rest = q.write b rest

  abbrev pub either_ends : A ⊎ B → Option Kind → Type 0
  either_ends (inl a) o = p.ends a o
  either_ends (inr b) o = q.ends b o

  abbrev pub read_either : ℕ → Parser (A ⊎ B)
  read_either room ts = cond (starts (first ts)) (and_then (p.read room ts) (λ a ts. Ok (inl a, ts))) (and_then (q.read room ts) (λ b ts. Ok (inr b, ts)))

  either_complete : (room : ℕ) (c : A ⊎ B) (rest : List Kind) → is_either room c → either_ends c (first rest) → read_either room (write_either c rest) ≡ Ok (c, rest)
  either_complete room (inl a) rest is ended = rw (begins room a rest is, p.exact.complete room a rest is ended) refl
  either_complete room (inr b) rest is ended = rw (begins_else room b rest is, q.exact.complete room b rest is ended) refl

  either_sound : (room : ℕ) (ts : List Kind) (y : (A ⊎ B) × List Kind) → read_either room ts ≡ Ok y → Parsed is_either write_either either_ends room ts y
  either_sound room ts y h =
      ⊎_elim
      (λ t.
      let a = bind_ok (p.read room ts) _ y t.1 in
      let found = p.exact.sound room ts a.0 a.1 in
      subst (Parsed is_either write_either either_ends room ts) (ok_is a.2) (record { is = found.is; written = found.written; ended = found.ended }))
      (λ t.
      let b = bind_ok (q.read room ts) _ y t.1 in
      let found = q.exact.sound room ts b.0 b.1 in
      subst (Parsed is_either write_either either_ends room ts) (ok_is b.2) (record { is = found.is; written = found.written; ended = found.ended }))
      (chosen (starts (first ts)) _ _ _ h)

  either_stuck : (room : ℕ) (ts : List Kind) (stop : Fault × List Kind) → p.Can room × q.Can room → read_either room ts ≡ Err stop → Stuck is_either write_either read_either room ts stop.0 stop.1
  either_stuck room ts stop can h =
      elim (chosen (starts (first ts)) _ _ _ h) [
        | inl t ↦
            (elim (stops (p.read room ts) _ stop t.1) [
              | Before e ↦
                  stuck_beside room ts stop.0 stop.1 (λ ts. ts) leading_nothing (λ a. inl a) (λ z. z) (λ a z. refl) (λ r a is. (r, is)) (λ a is. is)
                  (λ r us w le same i. rw (sym (ap starts same) ∙ t.0, i) refl)
                  (p.exact.stuck room ts stop can.0 e)
              | After a rest e d ↦ absurd (ok_err d)
            ])
        | inr t ↦
            (elim (stops (q.read room ts) _ stop t.1) [
              | Before e ↦
                  stuck_beside room ts stop.0 stop.1 (λ ts. ts) leading_nothing (λ b. inr b) (λ z. z) (λ b z. refl) (λ r b is. (r, is)) (λ b is. is)
                  (λ r us w le same i. rw (sym (ap starts same) ∙ t.0, i) refl)
                  (q.exact.stuck room ts stop can.1 e)
              | After b rest e d ↦ absurd (ok_err d)
            ])
      ]

  either_front : (c : A ⊎ B) (front rest : List Kind) → write_either c (front ++ rest) ≡ write_either c front ++ rest
  either_front (inl a) front rest = p.exact.front a front rest
  either_front (inr b) front rest = q.exact.front b front rest

  either_wider : (room other : ℕ) (c : A ⊎ B) → room ≤ other → is_either room c → is_either other c
  either_wider room other (inl a) le is = p.exact.wider room other a le is
  either_wider room other (inr b) le is = q.exact.wider room other b le is

  pub either_exact : Exact (λ room. p.Can room × q.Can room) is_either write_either either_ends read_either
  either_exact = record {
    complete = either_complete;
    sound = either_sound;
    stuck = either_stuck;
    front = either_front;
    wider = either_wider;
    sample = λ room can. let a = p.exact.sample room can.0 in (inl a.0, a.1);
  }

  abbrev pub or_else : Rule (A ⊎ B)
  or_else = record { Can = λ room. p.Can room × q.Can room; Is = is_either; write = write_either; ends = either_ends; read = read_either; exact = either_exact }

-- ---- the same part, as another tree

-- the part that makes a tree
pub record Made {A B : Type 0} (p : Rule A) (make : A → B) (write : B → List Kind → List Kind) (ends : B → Option Kind → Type 0) (room : ℕ) (b : B) : Type 0 where
  pub part : A
  pub made : make part ≡ b
  pub is : p.Is room part
  pub written : (rest : List Kind) → write b rest ≡ p.write part rest
  pub ended : (o : Option Kind) → ends b o → p.ends part o

-- trees of the two kinds stand one for one, and are written alike
pub record SameWritten {A B : Type 0} (p : Rule A) (make : A → B) (Is : ℕ → B → Type 0) (write : B → List Kind → List Kind) (ends : B → Option Kind → Type 0) : Type 0 where
  pub back : (room : ℕ) (b : B) → Is room b → Made p make write ends room b
  pub is_made : (room : ℕ) (a : A) → p.Is room a → Is room (make a)
  pub written_made : (a : A) (rest : List Kind) → write (make a) rest ≡ p.write a rest
  pub ends_made : (a : A) (o : Option Kind) → p.ends a o → ends (make a) o
  pub front : (b : B) (front rest : List Kind) → write b (front ++ rest) ≡ write b front ++ rest

module _ {A B : Type 0} (p : Rule A) (make : A → B) (Is : ℕ → B → Type 0) (write : B → List Kind → List Kind) (ends : B → Option Kind → Type 0) (same : SameWritten p make Is write ends) where
  abbrev pub read_made : ℕ → Parser B
  read_made room ts = and_then (p.read room ts) (λ a ts. Ok (make a, ts))

  made_complete : (room : ℕ) (b : B) (rest : List Kind) → Is room b → ends b (first rest) → read_made room (write b rest) ≡ Ok (b, rest)
  made_complete room b rest is ended =
      let back = same.back room b is in
      rw (back.written rest, p.exact.complete room back.part rest back.is (back.ended (first rest) ended)) (ap (λ (b : B). Ok (b, rest)) back.made)

  made_sound : (room : ℕ) (ts : List Kind) (y : B × List Kind) → read_made room ts ≡ Ok y → Parsed Is write ends room ts y
  made_sound room ts y h =
      let a = bind_ok (p.read room ts) _ y h in
      let found = p.exact.sound room ts a.0 a.1 in
      subst (Parsed Is write ends room ts) (ok_is a.2)
      (record { is = same.is_made room a.0.0 found.is; written = found.written ∙ sym (same.written_made a.0.0 a.0.1); ended = same.ends_made a.0.0 (first a.0.1) found.ended })

  made_stuck : (room : ℕ) (ts : List Kind) (stop : Fault × List Kind) → p.Can room → read_made room ts ≡ Err stop → Stuck Is write read_made room ts stop.0 stop.1
  made_stuck room ts stop can h =
      elim (stops (p.read room ts) _ stop h) [
        | Before e ↦
            stuck_beside room ts stop.0 stop.1 (λ ts. ts) leading_nothing make (λ z. z) (λ a z. same.written_made a z) (λ r a is. (r, same.is_made r a is)) (λ a is. same.is_made room a is)
            (λ r us w le first_same i. rw i refl)
            (p.exact.stuck room ts stop can e)
        | After a rest e d ↦ absurd (ok_err d)
      ]

  made_wider : (room other : ℕ) (b : B) → room ≤ other → Is room b → Is other b
  made_wider room other b le is = let back = same.back room b is in subst (Is other) back.made (same.is_made other back.part (p.exact.wider room other back.part le back.is))

  pub made_exact : Exact p.Can Is write ends read_made
  made_exact = record {
    complete = made_complete;
    sound = made_sound;
    stuck = made_stuck;
    front = same.front;
    wider = made_wider;
    sample = λ room can. let a = p.exact.sample room can in (make a.0, same.is_made room a.0 a.1);
  }

  abbrev pub made_of : Rule B
  made_of = record { Can = p.Can; Is = Is; write = write; ends = ends; read = read_made; exact = made_exact }
