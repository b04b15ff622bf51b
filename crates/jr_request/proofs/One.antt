-- The bytes of a batch have one answer.
use Rattle.std.proofs.Common.{◌≡◌, ◌⊎◌, inl, inr, ℕ, ◌+◌, List, [], ◌∷◌, Vec, Global, Option, Some, None, Result, Ok, Err, Ordering, Less, Equal, Greater, nat_cmp, refl, sym, ap, ◌∙◌, subst}
use Rattle.std.proofs.lemmas.Cmp.{nat_list_cmp_total}
use Rattle.std.specs.Cmp.Lexicographic.{slice_cmp}
use Rattle.std.specs.Ordering.{ordering_reverse}
use Rattle.serde_json.specs.Data.{Data, null, boolean, number, string, array, object, Items, no_items, item}
use Rattle.jr_base.specs.declared.request.Request.{Request}
use Rattle.jr_request.specs.declared.element.Action.{Action}
use Rattle.jr_request.specs.declared.element.Field.{Field}
use Rattle.jr_request.specs.declared.fault.RequestFault.{RequestFault}
use Rattle.jr_request.specs.declared.fault.RequestFault.TheVariants.{BadWords, BadJson, BadField, OutOfMemory}
use Rattle.jr_request.specs.Batch.{lacking, IsLeastOther, IsJson, IsRequest, IsKeyFault, IsActionFault, IsElementFault, AreRequests, IsFirstFault, IsBatch, IsBatchFault, IsBatchAnswer}
use Rattle.jr_request.specs.Steps.{ReadsValue, AnswersBatch, plain_answer}
use Rattle.jr_request.proofs.Fields.{lacking-said}
use Rattle.jr_request.proofs.Keys.{same_key}

same_request : (value : Data) (r s : Request) → IsRequest value r → IsRequest value s → r ≡ s
same_request value r s p q =
    let same : p.action ≡ q.action = cc in
    let said = rw same at p.said in
    cc

not_both : (value : Data) (r : Request) (key : List ℕ) → IsRequest value r → IsElementFault value key → ⊥
not_both value r key p fault =
    let least : IsLeastOther p.action value key = rw (p.named, lacking-said p.action value r p.said) at fault in
    let belongs = p.only key least.there in
    let other = least.other in
    cc

order_cases : (o : Ordering) → (o ≡ Greater → ⊥) → (ordering_reverse o ≡ Greater → ⊥) → o ≡ Equal
order_cases Less up down = absurd (down refl)
order_cases Equal up down = refl
order_cases Greater up down = absurd (up refl)

same_least : (action : Action) (value : Data) (k l : List ℕ) → IsLeastOther action value k → IsLeastOther action value l → k ≡ l
same_least action value k l p q =
    same_key k l (order_cases (slice_cmp nat_cmp k l) (p.least l q.there q.other)
    (λ e. q.least k p.there p.other (nat_list_cmp_total.antisymm l k ∙ e)))

same_key_fault : (field : Option Field) (action : Action) (value : Data) (k l : List ℕ) → IsKeyFault field action value k → IsKeyFault field action value l → k ≡ l
same_key_fault None action value k l p q = same_least action value k l p q
same_key_fault (Some field) action value k l p q = p ∙ sym q

same_action_fault : (action : Option Action) (value : Data) (k l : List ℕ) → IsActionFault action value k → IsActionFault action value l → k ≡ l
same_action_fault None value k l p q = p ∙ sym q
same_action_fault (Some action) value k l p q = same_key_fault (lacking action value) action value k l p q

same_requests : (values : Items) (rs ss : List Request) → AreRequests values rs → AreRequests values ss → rs ≡ ss
same_requests no_items [] [] p q = refl
same_requests no_items [] (s ∷ ss) p q = absurd q
same_requests no_items (r ∷ rs) ss p q = absurd p
same_requests (item value values) [] ss p q = absurd p
same_requests (item value values) (r ∷ rs) [] p q = absurd q
same_requests (item value values) (r ∷ rs) (s ∷ ss) p q =
    ap (λ x. x ∷ rs) (same_request value r s p.0 q.0) ∙ ap (λ xs. s ∷ xs) (same_requests values rs ss p.1 q.1)

no_fault : (next : ℕ) (values : Items) (rs : List Request) (index : ℕ) (key : List ℕ) → AreRequests values rs → IsFirstFault next values index key → ⊥
no_fault next no_items rs index key are fault = fault
no_fault next (item value values) [] index key are fault = are
no_fault next (item value values) (r ∷ rs) index key are fault =
    elim fault [ inl here ↦ not_both value r key are.0 here.1 | inr later ↦ no_fault (next + 1) values rs index key are.1 later.1 ]

same_fault : (next : ℕ) (values : Items) (i j : ℕ) (k l : List ℕ) → IsFirstFault next values i k → IsFirstFault next values j l → (i ≡ j) × (k ≡ l)
same_fault next no_items i j k l p q = absurd p
same_fault next (item value values) i j k l p q =
    elim p [
      | inl here ↦ elim q [
        | inl there ↦ (here.0 ∙ sym there.0, same_action_fault _ value k l here.1 there.1)
        | inr after ↦ absurd (not_both value after.0.0 k after.0.1 here.1)
      ]
      | inr later ↦ elim q [
        | inl there ↦ absurd (not_both value later.0.0 l later.0.1 there.1)
        | inr after ↦ same_fault (next + 1) values i j k l later.1 after.1
      ]
    ]

same_batch : (value : Data) (rs ss : List Request) → IsBatch value rs → IsBatch value ss → rs ≡ ss
same_batch null rs ss p q = absurd p
same_batch (boolean b) rs ss p q = absurd p
same_batch (number n) rs ss p q = absurd p
same_batch (string s) rs ss p q = absurd p
same_batch (array vs) rs ss p q = same_requests vs rs ss p q
same_batch (object ms) rs ss p q = absurd p

no_batch_fault : (value : Data) (rs : List Request) (index : ℕ) (key : List ℕ) → IsBatch value rs → IsBatchFault value index key → ⊥
no_batch_fault null rs index key p q = p
no_batch_fault (boolean b) rs index key p q = p
no_batch_fault (number n) rs index key p q = p
no_batch_fault (string s) rs index key p q = p
no_batch_fault (array vs) rs index key p q = no_fault 1 vs rs index key p q
no_batch_fault (object ms) rs index key p q = p

both_zero : (i j : ℕ) (k l m : List ℕ) → (i ≡ 0) × (k ≡ m) → (j ≡ 0) × (l ≡ m) → (i ≡ j) × (k ≡ l)
both_zero i j k l m p q = (p.0 ∙ sym q.0, p.1 ∙ sym q.1)

same_batch_fault : (value : Data) (i j : ℕ) (k l : List ℕ) → IsBatchFault value i k → IsBatchFault value j l → (i ≡ j) × (k ≡ l)
same_batch_fault null i j k l p q = both_zero i j k l _ p q
same_batch_fault (boolean b) i j k l p q = both_zero i j k l _ p q
same_batch_fault (number n) i j k l p q = both_zero i j k l _ p q
same_batch_fault (string s) i j k l p q = both_zero i j k l _ p q
same_batch_fault (array vs) i j k l p q = same_fault 1 vs i j k l p q
same_batch_fault (object ms) i j k l p q = both_zero i j k l _ p q

same_value : (bytes : List ℕ) (v w : Data) → IsJson bytes v → IsJson bytes w → v ≡ w
same_value bytes v w p q = let one = p.reads in let other = q.reads in cc

same_answer : (bytes : List ℕ) (a b : Result (List Request) RequestFault) → IsBatchAnswer bytes a → IsBatchAnswer bytes b → a ≡ b
same_answer bytes (Ok rs) (Ok ss) p q =
    ap Ok (same_batch p.0 rs ss p.2 (subst (λ (v : Data). IsBatch v ss) (same_value bytes q.0 p.0 q.1 p.1) q.2))
same_answer bytes (Ok rs) (Err BadWords) p q = absurd q
same_answer bytes (Ok rs) (Err BadJson) p q = absurd (q p.0 p.1)
same_answer bytes (Ok rs) (Err (BadField n k)) p q =
    absurd (no_batch_fault p.0 rs n k p.2 (subst (λ (v : Data). IsBatchFault v n k) (same_value bytes q.0 p.0 q.1 p.1) q.2))
same_answer bytes (Ok rs) (Err OutOfMemory) p q = absurd q
same_answer bytes (Err BadWords) b p q = absurd p
same_answer bytes (Err OutOfMemory) b p q = absurd p
same_answer bytes (Err BadJson) (Ok ss) p q = absurd (p q.0 q.1)
same_answer bytes (Err BadJson) (Err BadWords) p q = absurd q
same_answer bytes (Err BadJson) (Err BadJson) p q = refl
same_answer bytes (Err BadJson) (Err (BadField n k)) p q = absurd (p q.0 q.1)
same_answer bytes (Err BadJson) (Err OutOfMemory) p q = absurd q
same_answer bytes (Err (BadField n k)) (Ok ss) p q =
    absurd (no_batch_fault q.0 ss n k q.2 (subst (λ (v : Data). IsBatchFault v n k) (same_value bytes p.0 q.0 p.1 q.1) p.2))
same_answer bytes (Err (BadField n k)) (Err BadWords) p q = absurd q
same_answer bytes (Err (BadField n k)) (Err BadJson) p q = absurd (q p.0 p.1)
same_answer bytes (Err (BadField n k)) (Err (BadField m l)) p q =
    let same = same_batch_fault p.0 n m k l p.2 (subst (λ (v : Data). IsBatchFault v m l) (same_value bytes q.0 p.0 q.1 p.1) q.2) in
    let index : n ≡ m = same.0 in let key : k ≡ l = same.1 in cc
same_answer bytes (Err (BadField n k)) (Err OutOfMemory) p q = absurd q

-- no other answer fits
pub only_one : (bytes : List ℕ) (result : Result (Vec Request Global) RequestFault) → AnswersBatch bytes result
    → (answer : Result (List Request) RequestFault) → IsBatchAnswer bytes answer → (plain_answer result ≡ answer) ⊎ (result ≡ Err OutOfMemory)
only_one bytes (Ok rs) p answer q = inl (same_answer bytes (Ok rs.items) answer p q)
only_one bytes (Err BadWords) p answer q = absurd p
only_one bytes (Err BadJson) p answer q = inl (same_answer bytes (Err BadJson) answer p q)
only_one bytes (Err (BadField n k)) p answer q = inl (same_answer bytes (Err (BadField n k)) answer p q)
only_one bytes (Err OutOfMemory) p answer q = inr refl

-- what a value's reading answers, the bytes answer
pub of_value : (bytes : List ℕ) (value : Data) (result : Result (Vec Request Global) RequestFault) → IsJson bytes value → ReadsValue result value → AnswersBatch bytes result
of_value bytes value (Ok rs) json p = (value, json, p)
of_value bytes value (Err BadWords) json p = p
of_value bytes value (Err BadJson) json p = absurd p
of_value bytes value (Err (BadField n k)) json p = (value, json, p)
of_value bytes value (Err OutOfMemory) json p = tt
