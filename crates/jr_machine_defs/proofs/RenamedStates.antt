-- Changes of a state under a renaming.
use Rattle.std.proofs.Common.{◌≡◌, refl, sym, ap, ◌∙◌, subst, ℕ, zero, suc, Bool, true, false, cond, List, [], ◌∷◌, map, length, Some, None}
use Rattle.std.proofs.lemmas.List.{map_push, length-map}
use Rattle.jr_base.specs.declared.ids.DeclId.{DeclId}
use Rattle.jr_base.specs.declared.ids.TypeId.{TypeId}
use Rattle.jr_machine_defs.specs.declared.value.Value.{Value}
use Rattle.jr_machine_defs.specs.declared.value.Value.TheVariants as v
use Rattle.jr_machine_defs.specs.declared.slots.Slot.{Slot}
use Rattle.jr_machine_defs.specs.declared.heap.Cell.{Cell}
use Rattle.jr_machine_defs.specs.declared.heap.Cell.TheVariants as cell
use Rattle.jr_machine_defs.specs.declared.outcome.Fault.{Fault}
use Rattle.jr_machine_defs.specs.declared.outcome.Outcome.{Outcome}
use Rattle.jr_machine_defs.specs.declared.outcome.Outcome.TheVariants as o
use Rattle.jr_machine_defs.specs.declared.work.Work.{Work}
use Rattle.jr_machine_defs.specs.declared.state.State.{State}
use Rattle.jr_machine_defs.specs.Prelude.{fault_class}
use Rattle.jr_machine_defs.specs.States.{Next, with_work, with_values, with_heap, add_work, push_value, set_local, add_cell, throws, raises, with_one, with_two, with_some, with_outcome, settled}
use Rattle.jr_machine_defs.specs.Renamed.{IsRenaming, IsOwn, renamed_type, renamed_cell, renamed_work, renamed_state, renamed_next}
use Rattle.jr_machine_defs.proofs.RenamedValues.{assigned_renamed}
use Rattle.jr_machine_defs.proofs.RenamedParts.{work_joined}

-- the first is the renamed second
pub record Alike (f : DeclId → DeclId) (a b : Next) : Type 0 where
  pub same : a ≡ renamed_next f b

pub alike : {f : DeclId → DeclId} {a b : Next} → a ≡ renamed_next f b → Alike f a b
alike e = record { same = e }

pub goes : {f : DeclId → DeclId} {a b : State} → a ≡ renamed_state f b → Alike f (Some a) (Some b)
goes e = record { same = ap Some e }

pub stops : {f : DeclId → DeclId} → Alike f None None
stops = record { same = refl }

pub along : {f : DeclId → DeclId} {a b c : Next} → a ≡ b → Alike f b c → Alike f a c
along {f} {a} {b} {c} e h = record { same = e ∙ h.same }

pub if_on : {f : DeclId → DeclId} (c : Bool) {x y z u : Next} → Alike f x y → Alike f z u → Alike f (cond c x z) (cond c y u)
if_on true h k = h
if_on false h k = k

pub if_alike : {f : DeclId → DeclId} {b c : Bool} {x y z u : Next} → b ≡ c → Alike f x y → Alike f z u → Alike f (cond b x z) (cond c y u)
if_alike {f} {b} {c} {x} {y} {z} {u} e h k = subst (λ t. Alike f (cond t x z) (cond c y u)) (sym e) (if_on c h k)

-- ---- values that are taken off

pub one_alike : {f : DeclId → DeclId} (values : List Value) (s : State) (g h : Value → State → Next)
    → ((a : Value) (s : State) → Alike f (g a (renamed_state f s)) (h a s)) → Alike f (with_one values (renamed_state f s) g) (with_one values s h)
one_alike [] s g h e = stops
one_alike (a ∷ rest) s g h e = e a (with_values rest s)

pub two_alike : {f : DeclId → DeclId} (values : List Value) (s : State) (g h : Value → Value → State → Next)
    → ((a b : Value) (s : State) → Alike f (g a b (renamed_state f s)) (h a b s)) → Alike f (with_two values (renamed_state f s) g) (with_two values s h)
two_alike [] s g h e = stops
two_alike (b ∷ []) s g h e = stops
two_alike (b ∷ a ∷ rest) s g h e = e a b (with_values rest s)

pub some_alike : {f : DeclId → DeclId} (count : ℕ) (args values : List Value) (s : State) (g h : List Value → State → Next)
    → ((args : List Value) (s : State) → Alike f (g args (renamed_state f s)) (h args s))
    → Alike f (with_some count args values (renamed_state f s) g) (with_some count args values s h)
some_alike zero args values s g h e = e args (with_values values s)
some_alike (suc count) args [] s g h e = stops
some_alike (suc count) args (a ∷ rest) s g h e = some_alike count (a ∷ args) rest s g h e

-- ---- changes

abbrev with_locals : List Slot → State → State
with_locals locals s = record s { frame = record s.frame { locals = locals } }

abbrev type_by : DeclId → TypeId
type_by d = record { 0 = d }

pub work_added : (f : DeclId → DeclId) (work : List Work) (s : State) {x : List Work} → x ≡ map (renamed_work f) work → add_work x (renamed_state f s) ≡ renamed_state f (add_work work s)
work_added f work s e = ap (λ t. with_work t (renamed_state f s)) (work_joined f work s.frame.work e refl)

pub cell_added : (f : DeclId → DeclId) (c : Cell) (s : State) → add_cell (renamed_cell f c) (renamed_state f s) ≡ renamed_state f (add_cell c s)
cell_added f c s = ap (λ t. with_heap t (renamed_state f s)) (sym (map_push (renamed_cell f) s.heap c))

pub place_renamed : (f : DeclId → DeclId) (heap : List Cell) → length (map (renamed_cell f) heap) ≡ length heap
place_renamed f heap = length-map heap (renamed_cell f)

module _ (f : DeclId → DeclId) (p : IsRenaming f) where
  pub local_set : (local : DeclId) (value : Value) (s : State) → set_local (f local) value (renamed_state f s) ≡ renamed_state f (set_local local value s)
  local_set local value s = ap (λ t. with_locals t (renamed_state f s)) (assigned_renamed f p s.frame.locals local value)

  fault_kept : (x : Fault) → renamed_type f (fault_class x) ≡ fault_class x
  fault_kept x = ap type_by (p.keeps_own (fault_class x).0 (IsOwn.exception x))

  pub raises_renamed : (x : Fault) (s : State) → raises x (renamed_state f s) ≡ renamed_state f (raises x s)
  raises_renamed x s =
      ap (λ n. throws (v.Ref n) (add_cell (cell.Object (fault_class x) v.Null []) (renamed_state f s))) (place_renamed f s.heap)
      ∙ (ap (λ c. throws (v.Ref (length s.heap)) (add_cell (cell.Object c v.Null []) (renamed_state f s))) (sym (fault_kept x))
      ∙ ap (throws (v.Ref (length s.heap))) (cell_added f (cell.Object (fault_class x) v.Null []) s))

  pub outcome_alike : (outcome : Outcome) (s : State) (g h : Value → State → Next)
      → ((value : Value) (s : State) → Alike f (g value (renamed_state f s)) (h value s)) → Alike f (with_outcome outcome (renamed_state f s) g) (with_outcome outcome s h)
  outcome_alike (o.Gives value) s g h e = e value s
  outcome_alike (o.Makes units) s g h e =
      along (ap (λ n. g (v.Ref n) (add_cell (cell.Text units) (renamed_state f s))) (place_renamed f s.heap)
      ∙ ap (g (v.Ref (length s.heap))) (cell_added f (cell.Text units) s)) (e (v.Ref (length s.heap)) (add_cell (cell.Text units) s))
  outcome_alike (o.Throws x) s g h e = goes (raises_renamed x s)
  outcome_alike o.Unfit s g h e = stops

  pub outcome_same : (outcome : Outcome) (s : State) (g h : Value → State → Next) {x : Outcome} → x ≡ outcome
      → ((value : Value) (s : State) → Alike f (g value (renamed_state f s)) (h value s)) → Alike f (with_outcome x (renamed_state f s) g) (with_outcome outcome s h)
  outcome_same outcome s g h e k = along (ap (λ t. with_outcome t (renamed_state f s) g) e) (outcome_alike outcome s g h k)

  pub pushed : (value : Value) (s : State) → Alike f (Some (push_value value (renamed_state f s))) (Some (push_value value s))
  pushed value s = goes refl

  pub settles : (outcome : Outcome) (s : State) {x : Outcome} → x ≡ outcome → Alike f (settled x (renamed_state f s)) (settled outcome s)
  settles outcome s e =
      along (ap (λ t. settled t (renamed_state f s)) e) (outcome_alike outcome s (λ value s. Some (push_value value s)) (λ value s. Some (push_value value s)) pushed)
