use Rattle.std.proofs.Common.{◌≡◌, ◌++◌, List, ℕ, None, sym, ap, subst, ◌∙◌, arith}
use Rattle.jr_base.specs.Files.{plain}
use Rattle.jr_defs.specs.Program.{prelude_files}
use Rattle.jr_read.specs.Reading.{AreLexed, IsLexing, oversized}
use Rattle.jr_read.specs.Sizes.{first_too_large}
use Rattle.jr_read.proofs.Readings.{few_files, lexed_count, parsed_so, lexing_so}
use Rattle.jr_read.proofs.program.read.Goals as goal

pub returns-in-Some : goal.returns-in-Some
returns-in-Some c = oversized (sym (rw c.entries.ensures at c.in-Some.ensures))

pub parse_few-requires-clause-few : goal.parse_few-requires-clause-few
parse_few-requires-clause-few c =
    let few : first_too_large (plain c.entries-2.result.now) ≡ None = ap first_too_large (c.entries-2.ensures ∙ sym c.entries.ensures) ∙ sym c.in_default.ensures in
    let at_most = few_files (plain c.entries-2.result.now) few in
    omega (arith, at_most, lexed_count c.in-Ok.ensures.ok)

pub returns-in-Ok : goal.returns-in-Ok
returns-in-Ok c =
    let few = ap first_too_large (sym c.entries.ensures) ∙ sym c.in_default.ensures in
    let are = subst (λ (fs : List (List ℕ × List ℕ)). AreLexed (prelude_files ++ fs) c.in-Ok.lexed.items) c.entries-2.ensures c.in-Ok.ensures.ok in
    parsed_so c.args.files.now c.in-Ok.lexed.items few are c.parse_few.result c.parse_few.ensures

pub returns-in-Err : goal.returns-in-Err
returns-in-Err c =
    let few = ap first_too_large (sym c.entries.ensures) ∙ sym c.in_default.ensures in
    lexing_so c.args.files.now few c.in-Err.fault (subst (λ (fs : List (List ℕ × List ℕ)). IsLexing (prelude_files ++ fs) c.in-Err.fault) c.entries-2.ensures c.in-Err.ensures.err)

pub lex_all-requires : goal.lex_all-requires
lex_all-requires c =
    let few : first_too_large (plain c.entries-2.result.now) ≡ None = ap first_too_large (c.entries-2.ensures ∙ sym c.entries.ensures) ∙ sym c.in_default.ensures in
    omega (arith, few_files (plain c.entries-2.result.now) few)
