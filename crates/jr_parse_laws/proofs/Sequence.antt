-- One reader after another.
use Rattle.std.proofs.Common.{◌≡◌, ℕ, max, List, [], ◌∷◌, ◌++◌, Option, Some, None, Ok, Err, refl, sym, ap, ◌∙◌, subst, arith}
use Rattle.jr_base.specs.declared.kind.Kind.{Kind}
use Rattle.jr_parse_laws.specs.Parsers.{first, Parser, and_then}
use Rattle.jr_parse_laws.specs.Viable.{Stuck}
use Rattle.jr_parse_laws.proofs.Outcomes.{bind_ok, ok_is, ok_err, Before, After, stops}
use Rattle.jr_parse_laws.proofs.Stops.{stuck_beside, leading_nothing, leading_by}
use Rattle.jr_parse_laws.proofs.Exact.{Parsed, Exact, Rule}

abbrev pub both : {A B : Type 0} → (ℕ → Parser A) → (ℕ → Parser B) → ℕ → Parser (A × B)
both p q room ts = and_then (p room ts) (λ a ts. and_then (q room ts) (λ b ts. Ok ((a, b), ts)))

pub sequence : {A B : Type 0} {CanA CanB : ℕ → Type 0} {IsA : ℕ → A → Type 0} {IsB : ℕ → B → Type 0} {write_a : A → List Kind → List Kind} {write_b : B → List Kind → List Kind}
    {ends_a : A → Option Kind → Type 0} {ends_b : B → Option Kind → Type 0} {p : ℕ → Parser A} {q : ℕ → Parser B}
    → Exact CanA IsA write_a ends_a p → Exact CanB IsB write_b ends_b q
    → (ends : A × B → Option Kind → Type 0)
    → ((a : A) (b : B) (rest : List Kind) → ends (a, b) (first rest) → ends_a a (first (write_b b rest)) × ends_b b (first rest))
    → ((a : A) (b : B) (rest : List Kind) → ends_a a (first (write_b b rest)) → ends_b b (first rest) → ends (a, b) (first rest))
    → Exact (λ room. CanA room × CanB room) (λ room (c : A × B). IsA room c.0 × IsB room c.1) (λ (c : A × B) rest. write_a c.0 (write_b c.1 rest)) ends (both p q)
sequence {A = A} {B = B} {IsA = IsA} {IsB = IsB} {write_a = write_a} {write_b = write_b} {ends_a = ends_a} {ends_b = ends_b} {p = p} {q = q} pe qe ends apart together = record {
  complete = λ room c rest is ended. let each = apart c.0 c.1 rest ended in rw (pe.complete room c.0 (write_b c.1 rest) is.0 each.0, qe.complete room c.1 rest is.1 each.1) refl;
  sound = λ room ts y h.
      let a = bind_ok (p room ts) _ y h in
      let first_part = pe.sound room ts a.0 a.1 in
      let b = bind_ok (q room a.0.1) _ y a.2 in
      let second_part = qe.sound room a.0.1 b.0 b.1 in
      subst (Parsed (λ room (c : A × B). IsA room c.0 × IsB room c.1) (λ (c : A × B) rest. write_a c.0 (write_b c.1 rest)) ends room ts) (ok_is b.2)
      (record {
        is = (first_part.is, second_part.is);
        written = first_part.written ∙ ap (write_a a.0.0) second_part.written;
        ended = together a.0.0 b.0.0 b.0.1 (subst (λ (ts : List Kind). ends_a a.0.0 (first ts)) second_part.written first_part.ended) second_part.ended;
      });
  stuck = λ room ts stop can h.
      elim (stops (p room ts) _ stop h) [
        | Before e ↦
            (let b = qe.sample room can.1 in
            stuck_beside room ts stop.0 stop.1 (λ ts. ts) leading_nothing (λ a. (a, b.0)) (λ z. write_b b.0 z) (λ a z. refl)
            (λ r a is. (max r room, (pe.wider r (max r room) a (omega arith) is, qe.wider room (max r room) b.0 (omega arith) b.1)))
            (λ a is. (is, b.1))
            (λ r us w le same i. rw i refl)
            (pe.stuck room ts stop can.0 e))
        | After a rest e d ↦
            (let found = pe.sound room ts (a, rest) e in
            elim (stops (q room rest) _ stop d) [
              | Before i ↦
                  subst (λ ts. Stuck (λ room (c : A × B). IsA room c.0 × IsB room c.1) (λ (c : A × B) rest. write_a c.0 (write_b c.1 rest)) (both p q) room ts stop.0 stop.1) (sym found.written)
                  (stuck_beside room rest stop.0 stop.1 (write_a a) (leading_by write_a pe.front a) (λ b. (a, b)) (λ z. z) (λ b z. refl)
                  (λ r b is. (max r room, (pe.wider room (max r room) a (omega arith) found.is, qe.wider r (max r room) b (omega arith) is)))
                  (λ b is. (found.is, is))
                  (λ r us w le same j. rw (pe.complete r a us (pe.wider room r a le found.is) (subst (ends_a a) same found.ended), j) refl)
                  (qe.stuck room rest stop can.1 i))
              | After b ts i d ↦ absurd (ok_err d)
            ])
      ];
  front = λ c front rest. ap (write_a c.0) (qe.front c.1 front rest) ∙ pe.front c.0 (write_b c.1 front) rest;
  wider = λ room other c le is. (pe.wider room other c.0 le is.0, qe.wider room other c.1 le is.1);
  sample = λ room can. let a = pe.sample room can.0 in let b = qe.sample room can.1 in ((a.0, b.0), (a.1, b.1));
}

-- the second part tells where the first ends
abbrev pub and_so : {A B : Type 0} (p : Rule A) (q : Rule B) → ((a : A) (b : B) (rest : List Kind) → q.ends b (first rest) → p.ends a (first (q.write b rest))) → Rule (A × B)
and_so p q meet = record {
  Can = λ room. p.Can room × q.Can room;
  Is = λ room c. p.Is room c.0 × q.Is room c.1;
  write = λ c rest. p.write c.0 (q.write c.1 rest);
  ends = λ c o. q.ends c.1 o;
  read = both p.read q.read;
  exact = sequence p.exact q.exact (λ c o. q.ends c.1 o) (λ a b rest h. (meet a b rest h, h)) (λ a b rest g h. h);
}

-- this token and no other
abbrev pub only : Option Kind → List Kind
only None = []
only (Some k) = k ∷ []

first_only : (front rest : List Kind) → first (front ++ rest) ≡ first (front ++ only (first rest))
first_only [] [] = refl
first_only [] (k ∷ rest) = refl
first_only (j ∷ front) rest = refl

-- the second part may be empty, so that what follows the whole may follow the first
module _ {A B : Type 0} (p : Rule A) (q : Rule B) where
  abbrev pub both_end : A × B → Option Kind → Type 0
  both_end c o = p.ends c.0 (first (q.write c.1 (only o))) × q.ends c.1 o

  pub first_written : (b : B) (rest : List Kind) → first (q.write b rest) ≡ first (q.write b (only (first rest)))
  first_written b rest =
      ap first (q.exact.front b [] rest) ∙ first_only (q.write b []) rest ∙ sym (ap first (q.exact.front b [] (only (first rest))))

  abbrev pub and_maybe : Rule (A × B)
  and_maybe = record {
    Can = λ room. p.Can room × q.Can room;
    Is = λ room c. p.Is room c.0 × q.Is room c.1;
    write = λ c rest. p.write c.0 (q.write c.1 rest);
    ends = both_end;
    read = both p.read q.read;
    exact = sequence p.exact q.exact both_end
        (λ a b rest h. (subst (p.ends a) (sym (first_written b rest)) h.0, h.1))
        (λ a b rest g h. (subst (p.ends a) (first_written b rest) g, h));
  }

-- the two at once, or one by one
pub one_by_one : {A B C : Type 0} (p : ℕ → Parser A) (q : ℕ → Parser B) (f : A × B → Parser C) (room : ℕ) (ts : List Kind) → and_then (both p q room ts) f ≡ and_then (p room ts) (λ a ts. and_then (q room ts) (λ b ts. f (a, b) ts))
one_by_one p q f room ts =
    elim (p room ts) as (λ o. and_then (and_then o (λ a ts. and_then (q room ts) (λ b ts. Ok ((a, b), ts)))) f ≡ and_then o (λ a ts. and_then (q room ts) (λ b ts. f (a, b) ts))) [
      | Ok a ↦ (elim (q room a.1) as (λ o. and_then (and_then o (λ b ts. Ok ((a.0, b), ts))) f ≡ and_then o (λ b ts. f (a.0, b) ts)) [ Ok b ↦ refl | Err e ↦ refl ])
      | Err e ↦ refl
    ]
