-- Bytes that are taken from the front of a source, part by part.
use Rattle.std.proofs.Common.{◌≡◌, ℕ, zero, suc, ◌+◌, ◌-◌, ◌<◌, ◌≤◌, List, [], ◌++◌, length, drop, Option, None, Some, Err, refl, sym, ap, ◌∙◌, subst, arith, length-append}
use Rattle.std.proofs.Math.Seq.{drop-append_seam, drop-append-add, drop-nil}
use Rattle.std.proofs.KnownBytes.{Consumes-trans, Consumes-kept}
use Rattle.std.specs.Io.KnownBytes.{Consumes}
use Rattle.jr_request.specs.Input.{LeavesSome}
use Rattle.jr_request.specs.InputSteps.{LosesPart, ReadsPart, IsFront, TakesFront, most_read}
use Rattle.jr_request.specs.declared.input_fault.BatchFault.{BatchFault}
use Rattle.jr_request.specs.declared.input_fault.BatchFault.TheVariants.{SourceFault, TooLarge, Refused, OutOfMemory}

-- a part was taken, and then the reading gave up
pub gives_up : (most room : ℕ) (a b c : Option (List ℕ)) (before after : List ℕ) (fault : BatchFault) → Consumes a b before → length before + room ≤ most
    → ReadsPart b c room before after (Err fault) → TakesFront most a c (Err fault)
gives_up most room a b c before after SourceFault taken fits p = (before, omega arith, Consumes-kept a b c before taken p)
gives_up most room a b c before after OutOfMemory taken fits p =
    (before ++ p.0, rw length-append (let short : length p.0 ≤ room = p.1 in omega arith), Consumes-trans a b c before p.0 taken p.2)
gives_up most room a b c before after (TooLarge what) taken fits p = absurd p
gives_up most room a b c before after (Refused element field) taken fits p = absurd p

-- ---- what is left after a front

drop_gap : (gap : ℕ) (rest : List ℕ) → (0 < gap → rest ≡ []) → drop gap rest ≡ rest
drop_gap zero rest end = refl
drop_gap (suc gap) rest end = let none : rest ≡ [] = end (omega arith) in rw none (drop-nil (suc gap))

drop_front : (most : ℕ) (front rest : List ℕ) → length front ≤ most → (length front < most → rest ≡ []) → drop most (front ++ rest) ≡ rest
drop_front most front rest fits end =
    let gap = most - length front in
    let whole : length front + gap ≡ most = omega arith in
    subst (λ (n : ℕ). drop n (front ++ rest) ≡ rest) whole (drop-append-add front rest gap ∙ drop_gap gap rest (λ some. end (omega arith)))

-- a source that was read to the end of its front has the rest
pub rest_left : (most : ℕ) (bytes front : List ℕ) (new : Option (List ℕ)) → IsFront most (Some bytes) new front → new ≡ Some (drop most bytes)
rest_left most bytes front None p = absurd p.taken
rest_left most bytes front (Some rest) p =
    ap Some (sym (rw p.taken (drop_front most front rest p.fits p.end)))

-- a source that has lost a part has the rest
pub part_left : (bytes : List ℕ) (new : Option (List ℕ)) → LosesPart most_read (Some bytes) new → LeavesSome bytes new
part_left bytes None p = absurd p.2
part_left bytes (Some rest) p = (length p.0, p.1, ap Some (sym (ap (drop (length p.0)) p.2 ∙ drop-append_seam p.0 rest)))
