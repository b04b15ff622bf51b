-- Ways that are added one after the other.
use Rattle.std.proofs.Common.{◌≡◌, ℕ, zero, suc, ◌+◌, ◌-◌, ◌<◌, ◌≤◌, List, [], ◌∷◌, ◌++◌, map, refl, sym, ◌∙◌, ap, arith, append_assoc}
use Rattle.std.proofs.lemmas.List.{map-append}
use Rattle.jr_flow_defs.specs.States.{Pending, Hop, State, plainly, at, all_at}
use Rattle.jr_flow.specs.declared.leaving.Way.{Way}
use Rattle.jr_flow.specs.declared.pending.Waiting.{Waiting}
use Rattle.jr_flow.specs.Places.{way_seen, ways_seen}
use Rattle.jr_flow.proofs.Siblings.{room_left}

pub ways_more : (lists : List Waiting) (old new : List Way) (way : Way) → new ≡ old ++ way ∷ [] → ways_seen lists new ≡ ways_seen lists old ++ way_seen lists way ∷ []
ways_more lists old new way e = ap (ways_seen lists) e ∙ map-append (way_seen lists) old (way ∷ [])

-- two ways, one after the other
pub two_added : (old mid new : List (Hop State)) (a b : Hop State) → mid ≡ old ++ a ∷ [] → new ≡ mid ++ b ∷ [] → new ≡ old ++ a ∷ b ∷ []
two_added old mid new a b e f = f ∙ ap (λ xs. xs ++ b ∷ []) e ∙ append_assoc old (a ∷ []) (b ∷ [])

-- before each act of a row from one up to another
pub at_more : (n from count : ℕ) (w : Pending) (old new all : List (Hop State)) (act : ℕ) → act < count → new ≡ old ++ plainly (at n act w) ∷ [] → old ++ all_at n act (count - act) w ≡ all → new ++ all_at n (act + 1) (count - (act + 1)) w ≡ all
at_more n from count w old new all act lt e h = ap (λ xs. xs ++ all_at n (act + 1) (count - (act + 1)) w) e ∙ append_assoc old (plainly (at n act w) ∷ []) (all_at n (act + 1) (count - (act + 1)) w)
    ∙ ap (λ r. old ++ all_at n act r w) (sym (room_left count act lt)) ∙ h

pub at_end : (n count act : ℕ) (w : Pending) (old all : List (Hop State)) → count ≤ act → old ++ all_at n act (count - act) w ≡ all → old ++ [] ≡ all
at_end n count act w old all le h = let e : count - act ≡ 0 = omega arith in ap (λ r. old ++ all_at n act r w) (sym e) ∙ h
