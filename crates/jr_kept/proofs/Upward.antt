-- The way up from a row, and what waits there for the ends of blocks of `finally`.
use Rattle.std.proofs.Common.{◌≡◌, ◌⊎◌, inl, inr, ⊎_elim, refl, sym, ◌∙◌, ap, subst, arith, ℕ, ◌<◌, ◌≤◌, Bool, true, false, not, ◌||◌, [], ◌∷◌, nat_lt, Decides}
use Rattle.std.proofs.lemmas.Bool.{false≢true, cases_lt}
use Rattle.std.proofs.lemmas.Bool.Decides.{Decides-ltb}
use Rattle.jr_tree.specs.Rows.{Rows, parent, end}
use Rattle.jr_flow_defs.specs.Acts.{normally}
use Rattle.jr_flow_defs.specs.States.{Pending}
use Rattle.jr_kept.specs.Waiting.{is_finally, IsBelow, Waits, IsFree, WaitsOn, WaitsFor, IsGoingUp}
use Rattle.jr_kept.proofs.AtOnce.{waits_from, body_free}

or_none : (a b : Bool) → (a || b) ≡ false → (a ≡ false) × (b ≡ false)
or_none true b e = absurd (false≢true (sym e))
or_none false b e = (refl, e)

or_one : (a b : Bool) → (a || b) ≡ true → (a ≡ true) ⊎ (b ≡ true)
or_one true b e = inl refl
or_one false b e = inr e

or_last : (a b : Bool) → b ≡ true → (a || b) ≡ true
or_last true b e = refl
or_last false b e = e

not_out : (b : Bool) → not b ≡ true → b ≡ false
not_out true e = absurd (false≢true e)
not_out false e = refl

-- ---- one row

pub not_below : (p : Rows) (at over : ℕ) → over ≡ parent p at → at ≤ over → Decides false (IsBelow p (parent p at) at)
not_below p at over is le = (λ e. absurd (false≢true e), λ b. let behind = b.behind in absurd (omega (arith, behind, is, le)))

pub below_tells : (p : Rows) (at over stop : ℕ) → over ≡ parent p at → over < at → stop ≡ end p over → Decides (nat_lt at stop) (IsBelow p (parent p at) at)
below_tells p at over stop is lt ends = (
  λ e. record { behind = omega (arith, is, lt); within = subst (λ n. at < end p n) is (subst (λ n. at < n) ends ((Decides-ltb at stop).0 e)); under = refl },
  λ b. (Decides-ltb at stop).1 (subst (λ n. at < n) (sym ends) (subst (λ n. at < end p n) (sym is) b.within)),
)

-- what waits at the row above
above_waits : (p : Rows) (body at : ℕ) (u : Pending) → body < at → Waits p body at u → WaitsOn p body (parent p at) (is_finally p at) u
above_waits p body at u low (Waits.none e f) = absurd (omega (arith, low, e))
above_waits p body at u low (Waits.plainly {n = n} b is h) = record { above = u; waits = subst (λ z. Waits p body z u) (sym b.under) h; same = λ e. refl }
above_waits p body at u low (Waits.pushed {n = n} {u = v} b is e h) = record { above = v; waits = subst (λ z. Waits p body z v) (sym b.under) h; same = λ free. absurd (false≢true (sym free ∙ is)) }

-- nothing waits at a row that stands below none
never_waits : (p : Rows) (body at : ℕ) (u : Pending) → body < at → (IsBelow p (parent p at) at → ⊥) → Waits p body at u → ⊥
never_waits p body at u low apart (Waits.none e f) = absurd (omega (arith, low, e))
never_waits p body at u low apart (Waits.plainly {n = n} b is h) = apart (subst (λ z. IsBelow p z at) (sym b.under) b)
never_waits p body at u low apart (Waits.pushed {n = n} b is e h) = apart (subst (λ z. IsBelow p z at) (sym b.under) b)

-- ---- the way up

pub up_begins : (p : Rows) (body row : ℕ) → IsGoingUp p body row row false
up_begins p body row = record {
  out = λ w h. record { above = w; waits = h; same = λ e. refl };
  into = λ u h. record { here = u; waits = h; held = λ e. absurd (false≢true e); longer = λ e. e };
}

module _ (p : Rows) (body row at : ℕ) (is_held : Bool) (up : IsGoingUp p body row at is_held) where
  up_once : body < at → IsBelow p (parent p at) at → IsGoingUp p body row (parent p at) (is_held || is_finally p at)
  up_once low below = record { out = outwards; into = λ u h. inwards u h (is_finally p at) refl }
    where
      outwards : (w : Pending) → Waits p body row w → WaitsOn p body (parent p at) (is_held || is_finally p at) w
      outwards w h = let first = up.out w h in let next = above_waits p body at first.above low first.waits in
          record { above = next.above; waits = next.waits; same = λ e. let both = or_none is_held (is_finally p at) e in first.same both.0 ∙ next.same both.1 }

      some : (u : Pending) → normally ∷ u ≡ [] → ⊥
      some u e = absurd (let f = e in cc)

      inwards : (u : Pending) → Waits p body (parent p at) u → (b : Bool) → is_finally p at ≡ b → WaitsFor p body row (is_held || is_finally p at) u
      inwards u h false e = let w = up.into u (Waits.plainly below e h) in record {
        here = w.here;
        waits = w.waits;
        held = λ one. w.held (⊎_elim (λ early. early) (λ now. absurd (false≢true (sym e ∙ now))) (or_one is_held (is_finally p at) one));
        longer = w.longer;
      }
      inwards u h true e = let w = up.into (normally ∷ u) (Waits.pushed below e refl h) in
          record { here = w.here; waits = w.waits; held = λ one empty. some u (w.longer empty); longer = λ empty. absurd (some u (w.longer empty)) }

  pub up_goes : (over : ℕ) (now both : Bool) → body < at → IsBelow p (parent p at) at → over ≡ parent p at → now ≡ is_finally p at → both ≡ (is_held || now) → IsGoingUp p body row over both
  up_goes over now both low below is is_now either = subst (λ n. IsGoingUp p body row n both) (sym is) (subst (IsGoingUp p body row (parent p at)) (sym (either ∙ ap (λ b. is_held || b) is_now)) (up_once low below))

  pub up_stops : body < at → (IsBelow p (parent p at) at → ⊥) → Decides true (IsFree p body row)
  up_stops low apart = (λ e w h. let above = up.out w h in absurd (never_waits p body at above.above low apart above.waits), λ free. refl)

  free_out : at ≤ body → (nat_lt at body || not is_held) ≡ true → IsFree p body row
  free_out le e w h = let above = up.out w h in let low = waits_from p body at above.above above.waits in ⊎_elim
      (λ before. let less = (Decides-ltb at body).0 before in absurd (omega (arith, low, less)))
      (λ free. above.same (not_out is_held free) ∙ body_free p body at le above.above above.waits) (or_one (nat_lt at body) (not is_held) e)

  free_into : at ≤ body → IsFree p body row → (nat_lt at body || not is_held) ≡ true
  free_into le free = ⊎_elim (λ less. ap (λ b. b || not is_held) ((Decides-ltb at body).1 less)) (λ past. or_last (nat_lt at body) (not is_held) (ap not (never (omega (arith, le, past)) is_held refl))) (cases_lt at body)
    where
      never : at ≡ body → (b : Bool) → is_held ≡ b → is_held ≡ false
      never same false e = e
      never same true e = let w = up.into [] (Waits.none same refl) in absurd (w.held e (free w.here w.waits))

  pub up_ends : (result : Bool) → at ≤ body → result ≡ (nat_lt at body || not is_held) → Decides result (IsFree p body row)
  up_ends result le is = (λ e. free_out le (sym is ∙ e), λ free. is ∙ free_into le free)
