use Rattle.jr_edits.proofs.Apart.{ends_rise}
use Rattle.jr_edits.proofs.Slots.{reaches, free_before, free_last}
use Rattle.jr_edits.proofs.edits.free_slot.Goals as goal

pub slot_of-slot-requires : goal.slot_of-slot-requires
slot_of-slot-requires c = ends_rise 0 c.args.text_len c.args.edits.now c.requires.apart

pub returns-in-None : goal.returns-in-None
returns-in-None c =
    free_last c.args.text_len c.args.edits.now c.args.span c.slot_of-slot.result c.requires.apart c.requires.in_range c.slot_of-slot.ensures c.in-None.ensures.lookup.0

pub returns-then-next-span : goal.returns-then-next-span
returns-then-next-span c =
    reaches c.args.edits.now c.args.span c.slot_of-slot.result c.in-Some.next.now c.slot_of-slot.ensures c.in-Some.ensures.lookup.0 c.in-Some.ensures.lookup.1 c.if-next-span.true

pub returns-else-next-span : goal.returns-else-next-span
returns-else-next-span c =
    free_before c.args.text_len c.args.edits.now c.args.span c.slot_of-slot.result c.in-Some.next.now c.requires.apart c.requires.in_range c.slot_of-slot.ensures
    c.in-Some.ensures.lookup.0 c.in-Some.ensures.lookup.1 c.if-next-span.false
