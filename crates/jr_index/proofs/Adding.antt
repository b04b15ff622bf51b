-- What is added one behind the other.
use Rattle.std.proofs.Common.{◌≡◌, ℕ, suc, ◌+◌, ◌<◌, List, [], ◌∷◌, ◌++◌, length, get_or, drop, refl, sym, ap, ◌∙◌, subst, arith}
use Rattle.std.proofs.Math.Seq.{drop-cons}
use Rattle.jr_base.specs.declared.text.Text.{Text}
use Rattle.jr_tree.specs.declared.label.Label.{Label}
use Rattle.jr_index.specs.Events.{Open, Close, Events}
use Rattle.jr_index.specs.Marking.{Course, step, run}
use Rattle.jr_index.specs.Writing.{Written, Leads}

run_append : (c : Course) (xs ys : Events) → run c (xs ++ ys) ≡ run (run c xs) ys
run_append c [] ys = refl
run_append c (e ∷ xs) ys = run_append (step e c) xs ys

-- one part more is there
pub goes_on : {was is later : Written} {before part rest all : Events} → Leads was is before all → before ≡ part ++ rest → Leads is later [] part → Leads was later rest all
goes_on {was} {is} {later} {before} {part} {rest} {all} h e k = record {
  done =
      λ ok. let step = k.done ok in let sofar = h.done step.0 in
      (sofar.0, ap (λ s. run s rest) step.1 ∙ sym (run_append is.course part rest) ∙ ap (λ es. run is.course es) (sym e) ∙ sofar.1);
}

-- nothing is there yet
pub begins : {was : Written} {all : Events} → Leads was was all all
begins = record { done = λ ok. (ok, refl) }

pub adds_two : {a b c : Written} {xs ys : Events} → Leads a b [] xs → Leads b c [] ys → Leads a c [] (xs ++ ys)
adds_two {a} {b} {c} {xs} {ys} h k = record {
  done = λ ok. let second = k.done ok in let first = h.done second.0 in
      (first.0, second.1 ∙ ap (λ s. run s ys) first.1 ∙ sym (run_append a.course xs ys));
}

pub node : {a b c d : Written} {l : Label} {x : Text} {ks : Events} → Leads a b [] (Open l x ∷ []) → Leads b c [] ks → Leads c d [] (Close ∷ [])
    → Leads a d [] (Open l x ∷ ks ++ Close ∷ [])
node h k m = adds_two h (adds_two k m)

-- the label that opens is this one
pub labelled : {a b : Written} {l m : Label} {x : Text} → Leads a b [] (Open l x ∷ []) → l ≡ m → Leads a b [] (Open m x ∷ [])
labelled {a} {b} {l} {m} {x} h e = subst (λ k. Leads a b [] (Open k x ∷ [])) e h

-- nothing is added
pub nothing : {a : Written} → Leads a a [] []
nothing = record { done = λ ok. (ok, refl) }

-- these are the events that were to come
pub are : {a b : Written} {xs ys : Events} → Leads a b [] xs → xs ≡ ys → Leads a b [] ys
are {a} {b} h e = subst (λ es. Leads a b [] es) e h

-- the item that comes next
pub rest_is : {A : Type 0} (all : List A) (i : ℕ) (item : A) → i < length all → item ≡ get_or all i item → drop i all ≡ item ∷ drop (i + 1) all
rest_is all i item h e =
    let next : suc i ≡ i + 1 = omega arith in
    drop-cons all i item h ∙ ap (λ found. found ∷ drop (suc i) all) (sym e) ∙ ap (λ n. item ∷ drop n all) next
