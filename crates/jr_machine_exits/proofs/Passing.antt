-- A step that goes on from a state after an item of work was taken off.
use Rattle.std.proofs.Common.{◌≡◌, refl, sym, ◌∙◌, subst, Bool, true, false, List, ◌∷◌, Some, None}
use Rattle.jr_core.specs.Mirror.{Core}
use Rattle.jr_machine_defs.specs.declared.work.Exit.{Exit}
use Rattle.jr_machine_defs.specs.declared.work.Work.{Work}
use Rattle.jr_machine_defs.specs.declared.state.State.{State}
use Rattle.jr_machine_defs.specs.States.{Next, with_work}
use Rattle.jr_machine_defs.specs.Exits.{unwinds}
use Rattle.jr_machine_defs.specs.Steps.{exits}
use Rattle.jr_machine_defs.specs.Follows.{Follows}

-- of the old state only what it has printed counts
pub follows_from : (n : Next) (went : Bool) (old other new : State) → other.printed ≡ old.printed → Follows n went other new → Follows n went old new
follows_from None true old other new e h = h
follows_from None false old other new e h = h ∙ e
follows_from (Some s) true old other new e h = h
follows_from (Some s) false old other new e h = h

pub item_exits : (core : Core) (leaving : Exit) (item : Work) (rest work : List Work) (s : State) (went : Bool) (new : State) → work ≡ item ∷ rest
    → Follows (unwinds core leaving item (with_work rest s)) went (with_work rest s) new → Follows (exits core leaving work s) went s new
item_exits core leaving item rest work s went new e h =
    let P : List Work → Type 0 = λ w. Follows (exits core leaving w s) went s new in
    subst P (sym e) (follows_from (unwinds core leaving item (with_work rest s)) went s (with_work rest s) new refl h)
