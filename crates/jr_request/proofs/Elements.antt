-- The elements of a batch, one after another.
use Rattle.std.proofs.Common.{◌≡◌, inl, inr, ℕ, ◌+◌, ◌<◌, List, [], ◌∷◌, ◌++◌, length, get_or, drop, Err, sym, ap, ◌∙◌, subst, append_assoc, add-one, drop-cons}
use Rattle.std.proofs.lemmas.List.{append-nil}
use Rattle.serde_json.specs.Data.{Data, Items, item}
use Rattle.serde_json.specs.View.{view, items_view}
use Rattle.serde_json.specs.declared.value.Value.{Value}
use Rattle.jr_base.specs.declared.request.Request.{Request}
use Rattle.jr_request.specs.declared.fault.RequestFault.{RequestFault}
use Rattle.jr_request.specs.declared.fault.RequestFault.TheVariants.{BadWords, BadJson, BadField, OutOfMemory}
use Rattle.jr_request.specs.Batch.{IsRequest, IsElementFault, AreRequests, IsFirstFault}
use Rattle.jr_request.specs.Steps.{IsFaultAt, ReadsElement, ReadsElements}

-- what the rest of the elements say holds of all, once the first have been read
pub record ReadsOn (values rest : Items) (requests : List Request) (next : ℕ) : Type 0 where
  pub more : (rs : List Request) → AreRequests rest rs → AreRequests values (requests ++ rs)
  pub fault : (index : ℕ) (key : List ℕ) → IsFirstFault next rest index key → IsFirstFault 1 values index key

pub begins : (values : Items) (requests : List Request) → requests ≡ [] → ReadsOn values values requests 1
begins values requests e = record {
  more = λ rs are. rw e are;
  fault = λ index key f. f;
}

one_more : (vs : List Value) (i : ℕ) (v : Value) → i < length vs → v ≡ get_or vs i v
    → items_view (drop i vs) ≡ item (view v) (items_view (drop (i + 1) vs))
one_more vs i v low is =
    let e : drop i vs ≡ get_or vs i v ∷ drop (i + 1) vs = rw add-one (drop-cons vs i v low) in
    ap items_view e ∙ ap (λ (x : Value). item (view x) (items_view (drop (i + 1) vs))) (sym is)

pub goes_on : (values : Items) (vs : List Value) (i : ℕ) (v : Value) (requests : List Request) (r : Request) (next : ℕ) → i < length vs → v ≡ get_or vs i v
    → IsRequest (view v) r → ReadsOn values (items_view (drop i vs)) requests next
    → ReadsOn values (items_view (drop (i + 1) vs)) (requests ++ r ∷ []) (next + 1)
goes_on values vs i v requests r next low is said reads =
    let here = subst (λ (rest : Items). ReadsOn values rest requests next) (one_more vs i v low is) reads in
    record {
      more = λ rs are. rw append_assoc (here.more (r ∷ rs) (said, are));
      fault = λ index key f. here.fault index key (inr ((r, said), f));
    }

pub stops : (values : Items) (vs : List Value) (i : ℕ) (v : Value) (requests : List Request) (next : ℕ) (e : RequestFault) → i < length vs → v ≡ get_or vs i v
    → ReadsOn values (items_view (drop i vs)) requests next → ReadsElement (Err e) next (view v) → ReadsElements (Err e) values
stops values vs i v requests next BadWords low is reads said = said
stops values vs i v requests next BadJson low is reads said = said
stops values vs i v requests next OutOfMemory low is reads said = tt
stops values vs i v requests next (BadField n k) low is reads said =
    let here = subst (λ (rest : Items). ReadsOn values rest requests next) (one_more vs i v low is) reads in
    here.fault n k (inl said)

pub ends : (values : Items) (vs : List Value) (i : ℕ) (requests : List Request) (next : ℕ) → drop i vs ≡ []
    → ReadsOn values (items_view (drop i vs)) requests next → AreRequests values requests
ends values vs i requests next done reads =
    let here = subst (λ (rest : List Value). ReadsOn values (items_view rest) requests next) done reads in
    subst (λ (rs : List Request). AreRequests values rs) (append-nil requests) (here.more [] tt)

pub element_fault : (e : RequestFault) (number : ℕ) (value : Data) (key : List ℕ) → IsFaultAt number key e → IsElementFault value key
    → ReadsElement (Err e) number value
element_fault BadWords number value key at fault = at
element_fault BadJson number value key at fault = at
element_fault OutOfMemory number value key at fault = tt
element_fault (BadField n k) number value key at fault = (at.0, subst (λ (x : List ℕ). IsElementFault value x) (sym at.1) fault)
