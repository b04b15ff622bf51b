-- Which occurrences are lost, and the first of them by place.
use Rattle.std.proofs.Common.{◌≡◌, ◌⊎◌, inl, inr, ℕ, ◌+◌, ◌<◌, ◌≤◌, Bool, true, false, length, Option, Some, None, IfSome, Decides, sym, ◌∙◌, ap, subst, refl, arith}
use Rattle.std.proofs.lemmas.Bool.{cases_lt, false≢true}
use Rattle.jr_base.specs.declared.token.Place.{Place}
use Rattle.jr_tree.specs.Labels.{sought_by}
use Rattle.jr_tree.specs.declared.label.Sought.TheVariants as sought
use Rattle.jr_defs.specs.declared.referent.Referent.{Referent}
use Rattle.jr_defs.specs.declared.referent.Referent.TheVariants as referent
use Rattle.jr_defs.specs.Referents.{Table}
use Rattle.jr_defs.specs.Compiling.{AllFound}
use Rattle.jr_plain.specs.Declarations.{is_occurrence}
use Rattle.jr_plain.proofs.Bounds.{bounded}
use Rattle.jr_plain.proofs.Declared.{occurrence_tells}
use Rattle.jr_marks.specs.Places.{IsOrdered, place_of_name}
use Rattle.jr_marks.specs.declared.marks.Marks.{Marks}
use Rattle.jr_front.specs.Unbound.{IsBefore, IsEarlier, IsLost, IsFirstLost, is_lost}

-- ---- the order of places

pub before_trans : (a b c : Place) → IsBefore a b → IsBefore b c → IsBefore a c
before_trans a b c h k = elim h [
  | inl x ↦ elim k [ inl y ↦ inl (omega arith) | inr y ↦ inl (omega arith) ]
  | inr x ↦ elim k [ inl y ↦ inl (omega arith) | inr y ↦ inr (omega arith, omega arith) ]
]

pub never_before_itself : (a : Place) → IsBefore a a → ⊥
never_before_itself a h = elim h [ inl x ↦ omega arith | inr x ↦ omega arith ]

-- ---- what is lost

lost_tells : (a : Referent) → Decides (is_lost a) ((a ≡ referent.Unbound) ⊎ (a ≡ referent.Ambiguous))
lost_tells referent.Unbound = (λ e. inl refl, λ h. refl)
lost_tells referent.Ambiguous = (λ e. inr refl, λ h. refl)
lost_tells referent.Package = (λ e. cc, λ h. elim h [ inl e ↦ cc | inr e ↦ cc ])
lost_tells referent.ArrayLength = (λ e. cc, λ h. elim h [ inl e ↦ cc | inr e ↦ cc ])
lost_tells (referent.Declared d level) = (λ e. cc, λ h. elim h [ inl e ↦ cc | inr e ↦ cc ])

pub lost_here : (m : Marks) (t : Table) (row : ℕ) (refers lost : Bool) → refers ≡ is_occurrence m.rows.now row → refers ≡ true → lost ≡ is_lost (t row) → lost ≡ true → IsLost m t row
lost_here m t row refers lost e is f so = record { refers = (occurrence_tells m.rows.now row).0 (sym e ∙ is); lost = (lost_tells (t row)).0 (sym f ∙ so) }

pub no_occurrence : (m : Marks) (t : Table) (row : ℕ) (refers : Bool) → refers ≡ is_occurrence m.rows.now row → refers ≡ false → IsLost m t row → ⊥
no_occurrence m t row refers e off h = false≢true (sym off ∙ (e ∙ (occurrence_tells m.rows.now row).1 h.refers))

pub not_lost : (m : Marks) (t : Table) (row : ℕ) (lost : Bool) → lost ≡ is_lost (t row) → lost ≡ false → IsLost m t row → ⊥
not_lost m t row lost f off h = false≢true (sym off ∙ (f ∙ (lost_tells (t row)).1 h.lost))

-- what is lost is a row
lost_below : (m : Marks) (t : Table) (row : ℕ) → IsLost m t row → row < length m.rows.now
lost_below m t row h = bounded (λ l. sought_by l ≡ sought.Nothing → ⊥) (λ never. never refl) m.rows.now row h.refers.seeks

lost_not_found : (m : Marks) (t : Table) (row : ℕ) → IsLost m t row → AllFound m.rows.now t → ⊥
lost_not_found m t row h found = let one = found row h.refers in elim h.lost [ inl e ↦ one.0 e | inr e ↦ one.1 e ]

found_unless_lost : (m : Marks) (t : Table) → ((row : ℕ) → IsLost m t row → ⊥) → AllFound m.rows.now t
found_unless_lost m t never row h = (λ e. never row (record { refers = h; lost = inl e }), λ e. never row (record { refers = h; lost = inr e }))

-- ---- the first below a row

-- the place of a row below this one that is lost, and none below this one that is lost comes before it
pub record IsFirstBelow (m : Marks) (t : Table) (end : ℕ) (place : Place) : Type 0 where
  pub row : ℕ
  pub lost : IsLost m t row
  pub at : place ≡ place_of_name m row
  pub first : (other : ℕ) → other < end → IsLost m t other → IsBefore (place_of_name m other) place → ⊥

-- what was found among the rows below this one
pub record AreSeen (m : Marks) (t : Table) (end : ℕ) (best : Option Place) : Type 0 where
  pub none : best ≡ None → (row : ℕ) → row < end → IsLost m t row → ⊥
  pub some : IfSome best (λ place. (row : ℕ) × IsLost m t row)
  pub first : IsOrdered m → IfSome best (IsFirstBelow m t end)

pub none_seen : (m : Marks) (t : Table) → AreSeen m t 0 None
none_seen m t = record { none = λ e row lt h. absurd (omega arith); some = tt; first = λ ordered. tt }

pub found_here : (m : Marks) (t : Table) (end : ℕ) (best : Option Place) (place next : Place) → IsLost m t end → (IsOrdered m → place ≡ place_of_name m end) → IsEarlier best place next → AreSeen m t end best → AreSeen m t (end + 1) (Some next)
found_here m t end best place next h at e seen = record { none = λ is. cc; some = (end, h); first = λ ordered. is_first best e seen.none (seen.first ordered) (at ordered) }
  where
    same : (other : ℕ) → other < end + 1 → end ≤ other → other ≡ end
    same other lt more = omega arith

    is_first : (best : Option Place) → IsEarlier best place next → (best ≡ None → (row : ℕ) → row < end → IsLost m t row → ⊥) → IfSome best (IsFirstBelow m t end) → place ≡ place_of_name m end → IsFirstBelow m t (end + 1) next
    is_first None e none first is = record {
      row = end;
      lost = h;
      at = e ∙ is;
      first = λ other lt lost before. elim (cases_lt other end) [
        | inl less ↦ none refl other less lost
        | inr more ↦ never_before_itself next (subst (λ p. IsBefore p next) (ap (place_of_name m) (same other lt more) ∙ sym (e ∙ is)) before)
      ];
    }
    is_first (Some best) (inl e) none first is = record {
      row = end;
      lost = h;
      at = e.1 ∙ is;
      first = λ other lt lost before. elim (cases_lt other end) [
        | inl less ↦ first.first other less lost (before_trans (place_of_name m other) next best before (subst (λ p. IsBefore p best) (sym e.1) e.0))
        | inr more ↦ never_before_itself next (subst (λ p. IsBefore p next) (ap (place_of_name m) (same other lt more) ∙ sym (e.1 ∙ is)) before)
      ];
    }
    is_first (Some best) (inr e) none first is = record {
      row = first.row;
      lost = first.lost;
      at = e.1 ∙ first.at;
      first = λ other lt lost before. elim (cases_lt other end) [
        | inl less ↦ first.first other less lost (subst (λ p. IsBefore (place_of_name m other) p) e.1 before)
        | inr more ↦ e.0 (subst (λ p. IsBefore p best) (ap (place_of_name m) (same other lt more) ∙ sym is) (subst (λ p. IsBefore (place_of_name m other) p) e.1 before))
      ];
    }

pub passed_over : (m : Marks) (t : Table) (end : ℕ) (best : Option Place) → (IsLost m t end → ⊥) → AreSeen m t end best → AreSeen m t (end + 1) best
passed_over m t end best never seen = record {
  none = λ is row lt lost. elim (cases_lt row end) [ inl less ↦ seen.none is row less lost | inr more ↦ never (subst (λ n. IsLost m t n) (same row lt more) lost) ];
  some = seen.some;
  first = λ ordered. onward best (seen.first ordered);
}
  where
    same : (other : ℕ) → other < end + 1 → end ≤ other → other ≡ end
    same other lt more = omega arith

    onward : (best : Option Place) → IfSome best (IsFirstBelow m t end) → IfSome best (IsFirstBelow m t (end + 1))
    onward None first = tt
    onward (Some place) first = record {
      row = first.row;
      lost = first.lost;
      at = first.at;
      first = λ other lt lost before. elim (cases_lt other end) [ inl less ↦ first.first other less lost before | inr more ↦ never (subst (λ n. IsLost m t n) (same other lt more) lost) ];
    }

-- ---- all rows

pub all_found : (m : Marks) (t : Table) (end : ℕ) (best : Option Place) → length m.rows.now ≤ end → AreSeen m t end best → best ≡ None → AllFound m.rows.now t
all_found m t end best le seen is = found_unless_lost m t (λ row lost. let lt = lost_below m t row lost in seen.none is row (omega arith) lost)

pub none_is : (m : Marks) (t : Table) (end : ℕ) (best : Option Place) → AreSeen m t end best → AllFound m.rows.now t → best ≡ None
none_is m t end best seen found = by best seen.some
  where
    by : (best : Option Place) → IfSome best (λ place. (row : ℕ) × IsLost m t row) → best ≡ None
    by None h = refl
    by (Some place) h = absurd (lost_not_found m t h.0 h.1 found)

pub first_is_lost : (m : Marks) (t : Table) (end : ℕ) (best : Option Place) → length m.rows.now ≤ end → AreSeen m t end best → IsOrdered m → IfSome best (IsFirstLost m t)
first_is_lost m t end best le seen ordered = by best (seen.first ordered)
  where
    by : (best : Option Place) → IfSome best (IsFirstBelow m t end) → IfSome best (IsFirstLost m t)
    by None h = tt
    by (Some place) h = record { row = h.row; lost = h.lost; at = h.at; first = λ other lost. let lt = lost_below m t other lost in h.first other (omega arith) lost }
