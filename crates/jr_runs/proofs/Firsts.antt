-- One spelling more suits, and one row more stands where it is to stand.
use Rattle.std.proofs.Common.{◌≡◌, sym, ◌∙◌, ap, subst, ℕ, ◌+◌, ◌<◌, true, false, List, length, get_or, Some, ⊎_elim, arith}
use Rattle.std.specs.Prelude.{slice_get}
use Rattle.std.proofs.lemmas.Bool.{cases_lt, false≢true}
use Rattle.std.proofs.lemmas.Option.{same_Some, slice_get-get_or}
use Rattle.jr_tree.specs.Rows.{Rows}
use Rattle.jr_defs.specs.Referents.{Table}
use Rattle.jr_shapes.specs.declared.spelling.Spelling.{Spelling}
use Rattle.jr_runs.specs.declared.item.Item.{Item}
use Rattle.jr_runs.specs.Marks.{Marks}
use Rattle.jr_runs.specs.Plans.{Plan}
use Rattle.jr_runs.specs.Suits.{suits, AllSuit}
use Rattle.jr_runs.specs.Respelled.{Stands, AllStand}

read : {A : Type 0} (xs : List A) (k : ℕ) (x : A) → k < length xs → x ≡ get_or xs k x → slice_get xs k ≡ Some x
read xs k x lt is = slice_get-get_or xs k x lt ∙ ap Some (sym is)

pub none_suit : (p : Rows) (t : Table) (m : Marks) (c : List Spelling) → AllSuit p t m c 0
none_suit p t m c = record { each = λ i s lt there. absurd (omega (arith, lt)) }

pub suits_more : {p : Rows} {t : Table} {m : Marks} {c : List Spelling} {k : ℕ} (s : Spelling) → AllSuit p t m c k → k < length c → s ≡ get_or c k s → true ≡ suits p t m k s → AllSuit p t m c (k + 1)
suits_more {p = p} {t = t} {m = m} {c = c} {k = k} s before lt is fit = record {
  each = λ i r near there. ⊎_elim
      (λ below. before.each i r below there)
      (λ here. let e : i ≡ k = omega (arith, here, near) in let same : s ≡ r = same_Some s r (sym (read c k s lt is) ∙ ap (slice_get c) (sym e) ∙ there) in
      let P : ℕ → Type 0 = λ j. suits p t m j s ≡ true in let Q : Spelling → Type 0 = λ w. suits p t m i w ≡ true in subst Q same (subst P (sym e) (sym fit)))
      (cases_lt i k);
}

pub suits_not : {p : Rows} {t : Table} {m : Marks} {c : List Spelling} {k : ℕ} (s : Spelling) → AllSuit p t m c (length c) → k < length c → s ≡ get_or c k s → false ≡ suits p t m k s → ⊥
suits_not {c = c} {k = k} s all lt is off = false≢true (off ∙ all.each k s lt (read c k s lt is))

pub none_stand : (p : Rows) (x : Plan) (q : Rows) (v : Table) → AllStand p x q v 0
none_stand p x q v = record { each = λ i a lt there. absurd (omega (arith, lt)) }

read_as : {A : Type 0} (all xs : List A) (k : ℕ) (d : A) → all ≡ xs → k < length all → slice_get xs k ≡ Some (get_or all k d)
read_as all xs k d same lt = ap (λ ys. slice_get ys k) (sym same) ∙ slice_get-get_or all k d lt

pub stand_more : {p : Rows} {x : Plan} {q : Rows} {v : Table} {k : ℕ} (all : List Item) (d : Item) → AllStand p x q v k → all ≡ x.items → k < length all → Stands p x q v k (get_or all k d) → AllStand p x q v (k + 1)
stand_more {p = p} {x = x} {q = q} {v = v} {k = k} all d before same lt here = record {
  each = λ i b near there. ⊎_elim
      (λ below. before.each i b below there)
      (λ last. let e : i ≡ k = omega (arith, last, near) in let is : get_or all k d ≡ b = same_Some (get_or all k d) b (sym (read_as all x.items k d same lt) ∙ ap (slice_get x.items) (sym e) ∙ there) in
      let P : ℕ → Type 0 = λ j. Stands p x q v j (get_or all k d) in let Q : Item → Type 0 = λ w. Stands p x q v i w in subst Q is (subst P (sym e) here))
      (cases_lt i k);
}

pub stand_here : {p : Rows} {x : Plan} {q : Rows} {v : Table} {k : ℕ} (all : List Item) (d : Item) → AllStand p x q v (length x.items) → all ≡ x.items → k < length all → Stands p x q v k (get_or all k d)
stand_here {x = x} {k = k} all d stand same lt = stand.each k (get_or all k d) (subst (λ ys. k < length ys) same lt) (read_as all x.items k d same lt)
