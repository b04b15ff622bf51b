-- The first key that does not belong, among keys that rise.
use Rattle.std.proofs.Common.{◌≡◌, ◌⊎◌, inl, inr, List, [], ◌∷◌, ℕ, Bool, true, false, not, cond, Option, Some, None, IsSome, find, String, string_bytes, string_cmp, nat_cmp, is_eq, Global, Ordering, Less, Equal, Greater, refl, sym, ap, ◌∙◌, subst}
use Rattle.std.proofs.lemmas.Cmp.{nat_list_cmp_total, tied_itself}
use Rattle.std.proofs.lemmas.Map.Text.{is_eq-slice_cmp}
use Rattle.std.proofs.lemmas.Slice.Eq.{bytes_eq-Decides}
use Rattle.std.specs.Cmp.Lexicographic.{slice_cmp}
use Rattle.std.specs.List.{AllByRecursion}
use Rattle.std.specs.List.Sorted.{IsStrictlySortedBy}
use Rattle.std.specs.Map.{keys_of}
use Rattle.std.specs.Ordering.{match_ordering}
use Rattle.serde_json.specs.Data.{Data, null, boolean, number, string, array, object, Members}
use Rattle.serde_json.specs.Find.{get_member, as_object}
use Rattle.serde_json.specs.View.{view, members_view}
use Rattle.serde_json.specs.declared.value.Value.{Value}
use Rattle.jr_request.specs.declared.element.Action.{Action}
use Rattle.jr_request.specs.Batch.{belongs}
use Rattle.jr_request.specs.Steps.{IsOtherKey}

abbrev pub Entry : Type 0
Entry = String Global × Value

-- the first key of the entries that fails the test
abbrev pub first_failing : (List ℕ → Bool) → List Entry → Option (String Global)
first_failing test es = find (λ k. not (test (string_bytes k))) (keys_of es)

not_found : (passes : Bool) (k : String Global) (rest : Option (String Global)) → cond (not passes) (Some k) rest ≡ None → (passes ≡ true) × (rest ≡ None)
not_found true k rest e = (refl, e)
not_found false k rest e = cc

found : (passes : Bool) (k x : String Global) (rest : Option (String Global)) → cond (not passes) (Some k) rest ≡ Some x
    → ((passes ≡ false) × (k ≡ x)) ⊎ ((passes ≡ true) × (rest ≡ Some x))
found true k x rest e = inr (refl, e)
found false k x rest e = inl (refl, cc)

member_or : (o : Ordering) (v : Data) (rest : Option Data) → IsSome (match_ordering o rest (Some v) rest) → (o ≡ Equal) ⊎ IsSome rest
member_or Less v rest there = inr there
member_or Equal v rest there = inl refl
member_or Greater v rest there = inr there

or_member : (o : Ordering) (v : Data) (rest : Option Data) → IsSome rest → IsSome (match_ordering o rest (Some v) rest)
or_member Less v rest there = there
or_member Equal v rest there = refl
or_member Greater v rest there = there

pub same_key : (xs ys : List ℕ) → slice_cmp nat_cmp xs ys ≡ Equal → xs ≡ ys
same_key xs ys e = (bytes_eq-Decides xs ys).0 (sym (is_eq-slice_cmp xs ys) ∙ ap is_eq e)

same_text : (xs : List ℕ) → slice_cmp nat_cmp xs xs ≡ Equal
same_text xs = tied_itself nat_list_cmp_total xs

pub all_pass : (test : List ℕ → Bool) (es : List Entry) → first_failing test es ≡ None
    → (key : List ℕ) → IsSome (get_member key (members_view es)) → test key ≡ true
all_pass test [] e key there = cc
all_pass test (x ∷ es) e key there =
    let step = not_found (test (string_bytes x.0)) x.0 _ e in
    elim (member_or (slice_cmp nat_cmp key (string_bytes x.0)) (view x.1) (get_member key (members_view es)) there) [
      | inl o ↦ ap test (same_key key (string_bytes x.0) o) ∙ step.0
      | inr later ↦ all_pass test es step.1 key later
    ]

-- a key of the entries is above each key that they are above
above : (k : String Global) (es : List Entry) → AllByRecursion (λ y. string_cmp k y ≡ Less) (keys_of es)
    → (key : List ℕ) → IsSome (get_member key (members_view es)) → slice_cmp nat_cmp (string_bytes k) key ≡ Less
above k [] low key there = cc
above k (x ∷ es) low key there =
    elim (member_or (slice_cmp nat_cmp key (string_bytes x.0)) (view x.1) (get_member key (members_view es)) there) [
      | inl o ↦ ap (slice_cmp nat_cmp (string_bytes k)) (same_key key (string_bytes x.0) o) ∙ low.0
      | inr later ↦ above k es low.1 key later
    ]

pub record IsLeastFailing (test : List ℕ → Bool) (es : List Entry) (key : List ℕ) : Type 0 where
  pub there : IsSome (get_member key (members_view es))
  pub other : test key ≡ false
  pub least : (k : List ℕ) → IsSome (get_member k (members_view es)) → test k ≡ false → slice_cmp nat_cmp key k ≡ Greater → ⊥

least_here : (test : List ℕ → Bool) (x : Entry) (es : List Entry) → AllByRecursion (λ y. string_cmp x.0 y ≡ Less) (keys_of es)
    → test (string_bytes x.0) ≡ false → IsLeastFailing test (x ∷ es) (string_bytes x.0)
least_here test x es low fails = record {
  there = rw same_text refl;
  other = fails;
  least = λ k there other o.
      elim (member_or (slice_cmp nat_cmp k (string_bytes x.0)) (view x.1) (get_member k (members_view es)) there) [
        | inl e ↦ (let same = same_key k (string_bytes x.0) e in let equal = same_text (string_bytes x.0) in let o' = rw same at o in cc)
        | inr later ↦ (let less = above x.0 es low k later in cc)
      ];
}

least_later : (test : List ℕ → Bool) (x : Entry) (es : List Entry) (key : List ℕ) → test (string_bytes x.0) ≡ true
    → IsLeastFailing test es key → IsLeastFailing test (x ∷ es) key
least_later test x es key passes later = record {
  there = or_member (slice_cmp nat_cmp key (string_bytes x.0)) (view x.1) (get_member key (members_view es)) later.there;
  other = later.other;
  least = λ k there other o.
      elim (member_or (slice_cmp nat_cmp k (string_bytes x.0)) (view x.1) (get_member k (members_view es)) there) [
        | inl e ↦ (let same = ap test (same_key k (string_bytes x.0) e) in cc)
        | inr below ↦ later.least k below other o
      ];
}

pub least_failing : (test : List ℕ → Bool) (es : List Entry) (key : String Global) → IsStrictlySortedBy string_cmp (keys_of es)
    → first_failing test es ≡ Some key → IsLeastFailing test es (string_bytes key)
unfolding IsStrictlySortedBy
least_failing test [] key rise e = cc
least_failing test (x ∷ es) key rise e =
    elim (found (test (string_bytes x.0)) x.0 key (first_failing test es) e) [
      | inl here ↦ subst (λ (k : String Global). IsLeastFailing test (x ∷ es) (string_bytes k)) here.1 (least_here test x es rise.0 here.0)
      | inr later ↦ least_later test x es (string_bytes key) later.0 (least_failing test es key rise.1 later.1)
    ]

is_object : (value : Data) (ms : Members) → Some ms ≡ as_object value → value ≡ object ms
is_object null ms e = cc
is_object (boolean b) ms e = cc
is_object (number n) ms e = cc
is_object (string s) ms e = cc
is_object (array vs) ms e = cc
is_object (object found) ms e = cc

of_object : (action : Action) (es : List Entry) (key : Option (String Global)) → IsStrictlySortedBy string_cmp (keys_of es)
    → key ≡ first_failing (belongs action) es → IsOtherKey action (object (members_view es)) key
of_object action es None rise e = λ k there. all_pass (belongs action) es (sym e) k there
of_object action es (Some key) rise e =
    let at = least_failing (belongs action) es key rise (sym e) in
    record { there = at.there; other = at.other; least = at.least }

pub other_key_of : (action : Action) (value : Data) (es : List Entry) (key : Option (String Global)) → Some (members_view es) ≡ as_object value
    → IsStrictlySortedBy string_cmp (keys_of es) → key ≡ first_failing (belongs action) es → IsOtherKey action value key
other_key_of action value es key is rise e =
    subst (λ (v : Data). IsOtherKey action v key) (sym (is_object value (members_view es) is)) (of_object action es key rise e)
