use Rattle.std.proofs.Common.{◌++◌, ◌∷◌, [], List, refl, ap, ◌∙◌}
use Rattle.jr_base.specs.Files.{plain}
use Rattle.jr_defs.specs.Program.{prelude_files}
use Rattle.jr_read.specs.declared.lexed.Lexed.{Lexed}
use Rattle.jr_read.proofs.Readings.{lang_stops, io_stops, prelude_lexed}
use Rattle.jr_read.proofs.program.lex_all.Goals as goal

pub returns-in-Err-clause-err : goal.returns-in-Err-clause-err
returns-in-Err-clause-err c = lang_stops (plain c.args.files.now) c.lang_source.result.now c.lang_source.ensures (record { 0 = 0 }) refl c.in-Err.fault c.in-Err.ensures.err

pub returns-in-Err-lex_prelude-clause-err : goal.returns-in-Err-lex_prelude-clause-err
returns-in-Err-lex_prelude-clause-err c =
    io_stops (plain c.args.files.now) c.in-Ok.lang c.lang_source.result.now c.io_source.result.now c.lang_source.ensures c.in-Ok.ensures.ok c.io_source.ensures (record { 0 = 1 }) refl c.in-Err-lex_prelude.fault c.in-Err-lex_prelude.ensures.err

pub returns-clause-ok : goal.returns-clause-ok
returns-clause-ok c =
    let lang = c.in-Ok.lang in
    let io = c.in-Ok-lex_prelude.io in
    let are = c.in_ok-push-in-Ok-lex_prelude.ensures.items ∙ ap (λ (xs : List Lexed). xs ++ io ∷ []) (c.in_ok-push-in-Ok.ensures.items ∙ ap (λ (xs : List Lexed). xs ++ lang ∷ []) c.new-lexed.ensures.items) in
    c.lex_files.ensures.ok prelude_files (prelude_lexed _ lang io c.lang_source.result.now c.io_source.result.now are c.lang_source.ensures c.in-Ok.ensures.ok c.io_source.ensures c.in-Ok-lex_prelude.ensures.ok)

pub returns-clause-err : goal.returns-clause-err
returns-clause-err c =
    let lang = c.in-Ok.lang in
    let io = c.in-Ok-lex_prelude.io in
    let are = c.in_ok-push-in-Ok-lex_prelude.ensures.items ∙ ap (λ (xs : List Lexed). xs ++ io ∷ []) (c.in_ok-push-in-Ok.ensures.items ∙ ap (λ (xs : List Lexed). xs ++ lang ∷ []) c.new-lexed.ensures.items) in
    c.lex_files.ensures.err prelude_files (prelude_lexed _ lang io c.lang_source.result.now c.io_source.result.now are c.lang_source.ensures c.in-Ok.ensures.ok c.io_source.ensures c.in-Ok-lex_prelude.ensures.ok)
