use Rattle.std.proofs.Common.{sym, ◌∙◌, inl, inr, eq-eqb, eqb-true}
use Rattle.std.specs.Prelude.{slice_index}
use Rattle.std.proofs.lemmas.Bool.{false≢true}
use Rattle.std.proofs.lemmas.Str.{IsCharBoundary-start}
use Rattle.jr_lex.proofs.Found.{integer_found, no_integer}
use Rattle.jr_lex.proofs.items.integer_item.Goals as goal

pub run_end-end-requires : goal.run_end-end-requires
run_end-end-requires c = record { boundary = IsCharBoundary-start c.args.text.now c.utf8.text }

pub returns-then-has_point : goal.returns-then-has_point
returns-then-has_point c =
    no_integer c.args.text.now c.run_end-end.result c.run_end-end.ensures.run c.run_end-end.ensures.ends
    (inr (eqb-true (slice_index c.args.text.now c.run_end-end.result) 46 (sym c.has_point.ensures ∙ c.if-has_point.true)))

pub returns-in-None : goal.returns-in-None
returns-in-None c = no_integer c.args.text.now c.run_end-end.result c.run_end-end.ensures.run c.run_end-end.ensures.ends (inl (sym c.in-None.ensures))

pub returns-in-Some : goal.returns-in-Some
returns-in-Some c =
    integer_found c.args.text.now c.run_end-end.result c.in-Some.kind c.run_end-end.ensures.after.0 c.run_end-end.ensures.ends
    (λ e. false≢true (sym (sym c.has_point.ensures ∙ c.if-has_point.false) ∙ eq-eqb (slice_index c.args.text.now c.run_end-end.result) 46 e))
    (sym c.in-Some.ensures)
