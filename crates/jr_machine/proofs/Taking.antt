-- A step that goes on with values that were taken off.
use Rattle.std.proofs.Common.{◌≡◌, refl, sym, ◌∙◌, ap, subst, Bool, if◌then◌else◌, List, ◌∷◌, Some, None}
use Rattle.jr_core.specs.declared.operators.BinaryOp.{BinaryOp}
use Rattle.jr_core.specs.declared.operators.StepOp.{StepOp}
use Rattle.jr_core.specs.Mirror.{Code, Core}
use Rattle.jr_machine_defs.specs.declared.value.Value.{Value}
use Rattle.jr_machine_defs.specs.declared.heap.Cell.{Cell}
use Rattle.jr_machine_defs.specs.declared.outcome.Outcome.{Outcome}
use Rattle.jr_machine_defs.specs.declared.state.State.{State}
use Rattle.jr_machine_defs.specs.Operators.{compound, stepped, number_of}
use Rattle.jr_machine_defs.specs.Places.{store}
use Rattle.jr_machine_defs.specs.States.{Next, with_values, with_one, with_two, with_outcome}
use Rattle.jr_machine_defs.specs.Finishing.{assigns, steps}
use Rattle.jr_machine_defs.specs.Follows.{Follows}
use Rattle.jr_machine_exits.proofs.Passing.{follows_from}

one_goes_on : (values rest : List Value) (a : Value) (s : State) (f : Value → State → Next) (went : Bool) (new : State) → values ≡ a ∷ rest
    → Follows (f a (with_values rest s)) went (with_values rest s) new → Follows (with_one values s f) went s new
one_goes_on values rest a s f went new e h =
    let P : List Value → Type 0 = λ w. Follows (with_one w s f) went s new in
    subst P (sym e) (follows_from (f a (with_values rest s)) went s (with_values rest s) new refl h)

two_go_on : (values more rest : List Value) (a b : Value) (s : State) (f : Value → Value → State → Next) (went : Bool) (new : State) → values ≡ b ∷ more → more ≡ a ∷ rest
    → Follows (f a b (with_values rest s)) went (with_values rest s) new → Follows (with_two values s f) went s new
two_go_on values more rest a b s f went new e d h =
    let P : List Value → Type 0 = λ w. Follows (with_two w s f) went s new in
    subst P (sym (e ∙ ap (λ l. b ∷ l) d)) (follows_from (f a b (with_values rest s)) went s (with_values rest s) new refl h)

pub plain_goes_on : (core : Core) (target : Code) (value gives : Value) (rest : List Value) (s : State) (went : Bool) (new : State) → s.frame.values ≡ value ∷ rest → gives ≡ value
    → Follows (store core target value gives (with_values rest s)) went (with_values rest s) new → Follows (assigns core target None s) went s new
plain_goes_on core target value gives rest s went new e same h =
    let P : Value → Type 0 = λ g. Follows (store core target value g (with_values rest s)) went (with_values rest s) new in
    one_goes_on s.frame.values rest value s (λ v s. store core target v v s) went new e (subst P same h)

pub compound_goes_on : (core : Core) (target : Code) (op : BinaryOp) (old value : Value) (outcome : Outcome) (heap : List Cell) (more rest : List Value) (s : State) (went : Bool) (new : State)
    → s.frame.values ≡ value ∷ more → more ≡ old ∷ rest → heap ≡ s.heap → outcome ≡ compound heap op old value
    → Follows (with_outcome outcome (with_values rest s) (λ n s. store core target n n s)) went (with_values rest s) new → Follows (assigns core target (Some op) s) went s new
compound_goes_on core target op old value outcome heap more rest s went new e d same is h =
    let P : Outcome → Type 0 = λ o. Follows (with_outcome o (with_values rest s) (λ n s. store core target n n s)) went (with_values rest s) new in
    two_go_on s.frame.values more rest old value s (λ old value s. with_outcome (compound s.heap op old value) s (λ n s. store core target n n s)) went new e d
    (subst P (is ∙ ap (λ h. compound h op old value) same) h)

pub step_goes_on : (core : Core) (target : Code) (op : StepOp) (is_post : Bool) (old : Value) (outcome : Outcome) (rest : List Value) (s : State) (went : Bool) (new : State)
    → s.frame.values ≡ old ∷ rest → outcome ≡ stepped op old (number_of old)
    → Follows (with_outcome outcome (with_values rest s) (λ n s. store core target n (if is_post then old else n) s)) went (with_values rest s) new → Follows (steps core target op is_post s) went s new
step_goes_on core target op is_post old outcome rest s went new e is h =
    let P : Outcome → Type 0 = λ o. Follows (with_outcome o (with_values rest s) (λ n s. store core target n (if is_post then old else n) s)) went (with_values rest s) new in
    one_goes_on s.frame.values rest old s (λ old s. with_outcome (stepped op old (number_of old)) s (λ n s. store core target n (if is_post then old else n) s)) went new e (subst P is h)
