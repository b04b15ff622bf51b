-- A part that may be absent.
use Rattle.std.proofs.Common.{◌≡◌, ℕ, ◌≤◌, Bool, true, false, List, ◌++◌, Option, Some, None, Ok, Err, refl, sym, ap, ◌∙◌, subst, inl, inr, ⊎_elim}
use Rattle.std.specs.Prelude.{⊤}
use Rattle.jr_base.specs.declared.kind.Kind.{Kind}
use Rattle.jr_parse_laws.specs.declared.fault.Fault.{Fault}
use Rattle.jr_parse_laws.specs.Parsers.{first, Parser, optional}
use Rattle.jr_parse_laws.specs.Viable.{Stuck}
use Rattle.jr_parse_laws.proofs.Outcomes.{bind_ok, chosen, ok_is, ok_err, Before, After, stops}
use Rattle.jr_parse_laws.proofs.Stops.{stuck_beside, leading_nothing}
use Rattle.jr_parse_laws.proofs.Exact.{Parsed, Exact, Rule}

-- a part begins with a token that tells it
abbrev pub Begins : {A : Type 0} → Rule A → (Option Kind → Bool) → Type 0
Begins {A} p starts = (room : ℕ) (a : A) (rest : List Kind) → p.Is room a → starts (first (p.write a rest)) ≡ true

module _ {A : Type 0} (p : Rule A) (starts : Option Kind → Bool) (begins : Begins p starts) where
  abbrev pub is_part : ℕ → Option A → Type 0
  is_part room None = ⊤
  is_part room (Some a) = p.Is room a

  abbrev pub write_part : Option A → List Kind → List Kind
  write_part None rest = rest
  write_part (Some a) rest = p.write a rest

  abbrev pub part_ends : Option A → Option Kind → Type 0
  part_ends None o = starts o ≡ false
  part_ends (Some a) o = p.ends a o

  abbrev pub read_part : ℕ → Parser (Option A)
  read_part room = optional starts (p.read room)

  part_complete : (room : ℕ) (a : Option A) (rest : List Kind) → is_part room a → part_ends a (first rest) → read_part room (write_part a rest) ≡ Ok (a, rest)
  part_complete room None rest is ended = rw ended refl
  part_complete room (Some a) rest is ended = rw (begins room a rest is, p.exact.complete room a rest is ended) refl

  part_sound : (room : ℕ) (ts : List Kind) (y : Option A × List Kind) → read_part room ts ≡ Ok y → Parsed is_part write_part part_ends room ts y
  part_sound room ts y h =
      ⊎_elim
      (λ t.
      let a = bind_ok (p.read room ts) _ y t.1 in
      let found = p.exact.sound room ts a.0 a.1 in
      subst (Parsed is_part write_part part_ends room ts) (ok_is a.2) (record { is = found.is; written = found.written; ended = found.ended }))
      (λ t. subst (Parsed is_part write_part part_ends room ts) (ok_is t.1) (record { is = tt; written = refl; ended = t.0 }))
      (chosen (starts (first ts)) _ _ _ h)

  part_stuck : (room : ℕ) (ts : List Kind) (stop : Fault × List Kind) → p.Can room → read_part room ts ≡ Err stop → Stuck is_part write_part read_part room ts stop.0 stop.1
  part_stuck room ts stop can h =
      elim (chosen (starts (first ts)) _ _ _ h) [
        | inl t ↦
            (elim (stops (p.read room ts) _ stop t.1) [
              | Before e ↦
                  stuck_beside room ts stop.0 stop.1 (λ ts. ts) leading_nothing (λ a. Some a) (λ z. z) (λ a z. refl) (λ r a is. (r, is)) (λ a is. is)
                  (λ r us w le same i. rw (sym (ap starts same) ∙ t.0, i) refl)
                  (p.exact.stuck room ts stop can e)
              | After a rest e d ↦ absurd (ok_err d)
            ])
        | inr t ↦ absurd (ok_err t.1)
      ]

  part_front : (a : Option A) (front rest : List Kind) → write_part a (front ++ rest) ≡ write_part a front ++ rest
  part_front None front rest = refl
  part_front (Some a) front rest = p.exact.front a front rest

  part_wider : (room other : ℕ) (a : Option A) → room ≤ other → is_part room a → is_part other a
  part_wider room other None le is = tt
  part_wider room other (Some a) le is = p.exact.wider room other a le is

  pub part_exact : Exact p.Can is_part write_part part_ends read_part
  part_exact = record {
    complete = part_complete;
    sound = part_sound;
    stuck = part_stuck;
    front = part_front;
    wider = part_wider;
    sample = λ room can. (None, tt);
  }

  abbrev pub perhaps : Rule (Option A)
  perhaps = record { Can = p.Can; Is = is_part; write = write_part; ends = part_ends; read = read_part; exact = part_exact }
