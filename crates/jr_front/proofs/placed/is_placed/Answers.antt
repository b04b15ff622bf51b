use Rattle.std.proofs.Common.{◌∙◌, ap, sym, subst, ◌++◌, List, Decides}
use Rattle.jr_base.specs.declared.text.Text.{Text}
use Rattle.jr_tree.specs.declared.tree.TypeDecl.{TypeDecl}
use Rattle.jr_tree.specs.Mirror.Decls.{plain_decls}
use Rattle.jr_defs.specs.Program.{folder, HaveFileName}
use Rattle.jr_front.proofs.Placing.{refused, file_behind, placed_tells}
use Rattle.jr_front.proofs.placed.is_placed.Goals as goal

pub returns-in_default-file_name : goal.returns-in_default-file_name
returns-in_default-file_name c = refused (λ h. c.in_default-file_name.ensures h.file (file_behind c.args.placed.now c.in-Some.rest.now
    (sym c.bytes.ensures ∙ (c.in-Some.ensures ∙ ap (λ (parts : List Text). folder parts ++ c.in-Some.rest.now) c.package_parts.ensures)) h))

pub returns : goal.returns
returns c = placed_tells c.args.placed.now c.in-Some.rest.now c.in-Some-file_name.file.now c.have_file_name.result
    (sym c.bytes.ensures ∙ (c.in-Some.ensures ∙ ap (λ (parts : List Text). folder parts ++ c.in-Some.rest.now) c.package_parts.ensures)) c.in-Some-file_name.ensures
    (subst (λ (types : List TypeDecl). Decides c.have_file_name.result (HaveFileName c.in-Some-file_name.file.now (plain_decls types))) c.as_slice.ensures c.have_file_name.ensures)
