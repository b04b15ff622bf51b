-- Of faults that were found those of some rules are added.
use Rattle.std.proofs.Common.{◌≡◌, refl, sym, ◌∙◌, ap, subst, ℕ, ◌+◌, ◌<◌, ◌≤◌, Bool, true, false, cond, ◌&&◌, List, [], ◌∷◌, ◌++◌, length, get_or, take, nat_le, append-nil, append_assoc}
use Rattle.std.proofs.lemmas.Bool.{false≢true}
use Rattle.std.proofs.lemmas.Bool.Decides.{Decides-eqb}
use Rattle.std.proofs.lemmas.List.{take_more, take_all}
use Rattle.jr_rule.specs.declared.Fault.{Fault}
use Rattle.jr_rule.specs.declared.Rule.{Rule}
use Rattle.jr_rule.specs.Numbers.{number_of}
use Rattle.jr_rule.specs.Faults.{is_of, rows_of, AreFaultsOf}
use Rattle.jr_faults.proofs.Told.{rows_append}
use Rattle.jr_front.specs.Tested.{is_between, AreTakenOver}

-- a fault of a rule that is let through, or not, has none of the rows of one of the others
other_row : (first last : ℕ) (one : Rule) (fault : Fault) → is_between first last one ≡ false → is_between first last fault.rule ≡ true → rows_of one (fault ∷ []) ≡ []
other_row first last one fault apart within = by (is_of one fault) refl
  where
    by : (b : Bool) → is_of one fault ≡ b → cond b (fault.row ∷ []) [] ≡ []
    by true is = absurd (false≢true (sym apart ∙ ap (λ k. nat_le first k && nat_le k last) (sym ((Decides-eqb (number_of fault.rule) (number_of one)).0 is)) ∙ within))
    by false is = refl

own_row : (first last : ℕ) (one : Rule) (fault : Fault) → is_between first last one ≡ true → is_between first last fault.rule ≡ false → rows_of one (fault ∷ []) ≡ []
own_row first last one fault within apart = by (is_of one fault) refl
  where
    by : (b : Bool) → is_of one fault ≡ b → cond b (fault.row ∷ []) [] ≡ []
    by true is = absurd (false≢true (sym apart ∙ ap (λ k. nat_le first k && nat_le k last) ((Decides-eqb (number_of fault.rule) (number_of one)).0 is) ∙ within))
    by false is = refl

pub none_taken : (first last : ℕ) (found old : List Fault) → AreTakenOver first last (take 0 found) old old
none_taken first last found old = record { others = record { others = λ one apart. none one }; these = λ one within. none one }
  where
    none : (one : Rule) → AreFaultsOf one [] old old
    none one = record { are = sym (append-nil (rows_of one old)) }

-- one more is added
pub taken_more : (first last : ℕ) (found old now new : List Fault) (k : ℕ) (d : Fault) → k < length found → is_between first last (get_or found k d).rule ≡ true → new ≡ now ++ get_or found k d ∷ []
    → AreTakenOver first last (take k found) old now → AreTakenOver first last (take (k + 1) found) old new
taken_more first last found old now new k d lt within is h =
    let fault = get_or found k d in
    record {
      others = record {
        others = λ one apart. record {
          are = ap (rows_of one) is ∙ rows_append one now (fault ∷ []) ∙ ap (λ l. rows_of one now ++ l) (other_row first last one fault apart within)
              ∙ append-nil (rows_of one now) ∙ (h.others.others one apart).are;
        };
      };
      these = λ one inside. record {
        are = ap (rows_of one) is ∙ rows_append one now (fault ∷ []) ∙ ap (λ l. l ++ rows_of one (fault ∷ [])) (h.these one inside).are
            ∙ append_assoc (rows_of one old) (rows_of one (take k found)) (rows_of one (fault ∷ [])) ∙ ap (λ l. rows_of one old ++ l) (sym (ap (rows_of one) (take_more found k d lt) ∙ rows_append one (take k found) (fault ∷ [])));
      };
    }

-- or is not
pub taken_past : (first last : ℕ) (found old now : List Fault) (k : ℕ) (d : Fault) → k < length found → is_between first last (get_or found k d).rule ≡ false
    → AreTakenOver first last (take k found) old now → AreTakenOver first last (take (k + 1) found) old now
taken_past first last found old now k d lt apart h =
    let fault = get_or found k d in
    record {
      others = h.others;
      these = λ one inside. record {
        are = (h.these one inside).are ∙ ap (λ l. rows_of one old ++ l) (sym (ap (rows_of one) (take_more found k d lt) ∙ rows_append one (take k found) (fault ∷ [])
            ∙ ap (λ l. rows_of one (take k found) ++ l) (own_row first last one fault inside apart) ∙ append-nil (rows_of one (take k found))));
      };
    }

pub all_taken : (first last : ℕ) (found old new : List Fault) (k : ℕ) → length found ≤ k → AreTakenOver first last (take k found) old new → AreTakenOver first last found old new
all_taken first last found old new k le h = subst (λ all. AreTakenOver first last all old new) (take_all k found le) h
