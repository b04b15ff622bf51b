use Rattle.std.proofs.Common.{◌∙◌, sym, ap, map, reverse}
use Rattle.std.proofs.lemmas.Result.{IfOk-weaker}
use Rattle.jr_spell.specs.Spellers.{rows_of, table_of}
use Rattle.jr_spell.proofs.Staying.{stands_so}
use Rattle.jr_spell.proofs.speller.Speller.is_plain.Goals as goal

pub returns : goal.returns
returns c = λ whole sought. let s = c.args.self.now in let r = c.args.reference.now in let a = c.args.spelling.now in
    IfOk-weaker c.are_parts_named_so.result _ _ (λ b h e. stands_so (rows_of s) (table_of s) r.row a r.lock c.in_ok-parts.parts.items sought.at_row.lock_is (c.is_old.ensures.shape c.if-not-is_old.false) (c.is_old.ensures.casts c.if-not-is_old.false)
    (c.is_at_lock.ensures.found c.if-not-is_at_lock.false) c.in_ok-parts.ensures
    (sym c.deref-2.ensures.value ∙ c.is_trace_kept.ensures c.if-not-is_trace_kept.false ∙ ap (λ xs. reverse (map (table_of s) xs)) c.deref.ensures.value) (c.is_at_lock.ensures.named whole sought c.if-not-is_at_lock.false) (h e))
    (c.are_parts_named_so.ensures whole sought (c.deref-3.ensures.value ∙ c.in_ok-parts.ensures))
