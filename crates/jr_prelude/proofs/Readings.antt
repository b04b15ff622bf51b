-- The texts of the prelude read as their trees, and as nothing else; what follows for each program of files.
use Rattle.std.proofs.Common.{◌≡◌, ℕ, ◌≤◌, List, ◌++◌, map, sym, ◌∙◌, ap, subst}
use Rattle.std.specs.FinMap as files
use Rattle.jr_base.specs.declared.token.Token.{Token}
use Rattle.jr_tree.specs.declared.tree.Unit as declared_unit
use Rattle.jr_tree.specs.Mirror.Decls as d
use Rattle.jr_tree.specs.Depth.{unit_depth}
use Rattle.jr_tree.specs.Shape.{IsShaped, IsShapedUnit}
use Rattle.jr_tree.specs.Tokens.{tokens_of, unit_tokens}
use Rattle.jr_tree.proofs.Same.Decls.{tree_unit, plain_tree_unit}
use Rattle.jr_tree.specs.Rows.{program_rows}
use Rattle.jr_tree.proofs.Locals.{each_program_is_local}
use Rattle.jr_defs.specs.declared.program.UnitAt.{UnitAt}
use Rattle.jr_defs.specs.Formed.{IsFormed}
use Rattle.jr_defs.specs.Prelude.{lang_text, io_text}
use Rattle.jr_defs.specs.Program.{ReadsAs, prelude_files, rows_of}
use Rattle.jr_defs.proofs.Forming.{formed}
use Rattle.jr_lex.proofs.Readings.{lex_one}
use Rattle.jr_parse_defs.proofs.Readings.{one_reading}
use Rattle.jr_prelude.specs.Begins.{BeginsWithLang}
use Rattle.jr_prelude.specs.Io.{io_unit}
use Rattle.jr_prelude.specs.Lang.{lang_unit}
use Rattle.jr_prelude.specs.Laws.{Reads, FilesAreProgram, FilesAreOneProgram, OfFiles}
use Rattle.jr_prelude.specs.Numbers.{HasMachineNumbers}
use Rattle.jr_prelude.proofs.Begun.{object_bare}
use Rattle.jr_prelude.proofs.PreludeShaped.{lang_shaped, lang_shallow, io_shaped, io_shallow}
use Rattle.jr_prelude.proofs.PreludeTokens.{lang_has, io_has}
use Rattle.jr_prelude.proofs.Programs.{program_begins, program_has_numbers, all_shaped, units_of, same_units}
use Rattle.jr_prelude.proofs.TextTokens.{HasTokens, only_tokens}

-- a tree as a unit of the program, and the text that is laid out as its tokens
module _ (u : d.CompilationUnit) (text : List ℕ) (has : HasTokens text (unit_tokens u)) (shaped : IsShapedUnit u) (shallow : unit_depth u ≤ 256) where
  as_shaped : IsShaped (tree_unit u)
  as_shaped = subst IsShapedUnit (sym (plain_tree_unit u)) shaped

  as_written : tokens_of (tree_unit u) ≡ unit_tokens u
  as_written = ap unit_tokens (plain_tree_unit u)

  pub is_read : ReadsAs text has.tokens (tree_unit u)
  is_read = record {
    lexed = has.lexed;
    written = has.kinds ∙ sym as_written;
    shaped = as_shaped;
    shallow = subst (λ v. unit_depth v ≤ 256) (sym (plain_tree_unit u)) shallow;
  }

  -- what reads so is that tree
  pub is_one : (tokens : List Token) (unit : declared_unit.Unit) → ReadsAs text tokens unit → d.plain_unit unit ≡ u
  is_one tokens unit reads =
      let alike : tokens_of unit ≡ tokens_of (tree_unit u) = sym reads.written ∙ only_tokens has tokens reads.lexed ∙ sym as_written in
      ap d.plain_unit (one_reading unit (tree_unit u) reads.shaped as_shaped alike) ∙ plain_tree_unit u

pub lang_reads : Reads lang_text lang_unit
lang_reads = record {
  tokens = only_tokens lang_has;
  some = (lang_has.tokens, tree_unit lang_unit, is_read lang_unit lang_text lang_has lang_shaped lang_shallow);
  one = is_one lang_unit lang_text lang_has lang_shaped lang_shallow;
}

pub io_reads : Reads io_text io_unit
io_reads = record {
  tokens = only_tokens io_has;
  some = (io_has.tokens, tree_unit io_unit, is_read io_unit io_text io_has io_shaped io_shallow);
  one = is_one io_unit io_text io_has io_shaped io_shallow;
}

-- ---- programs of files

pub programs_begin : OfFiles BeginsWithLang
programs_begin = program_begins lang_reads

pub programs_have_numbers : OfFiles HasMachineNumbers
programs_have_numbers = program_has_numbers lang_reads io_reads

pub programs_formed : OfFiles IsFormed
programs_formed found program h =
    let units = map (λ (u : UnitAt). u.unit) program.units in
    formed (program_rows units) (each_program_is_local units (all_shaped h)) (object_bare (rows_of program) (programs_begin found program h))

pub files_are_program : FilesAreProgram
files_are_program found all =
    let made = units_of (prelude_files ++ files.entries found) (lang_reads.some, (io_reads.some, all)) in
    (record { units = made.0 }, made.1)

pub files_are_one_program : FilesAreOneProgram
files_are_one_program found p q h k =
    ap (λ units. record { units = units }) (same_units (λ bytes ts us a b r w. lex_one bytes ts us r.lexed w.lexed)
    (λ bytes ts us a b r w. one_reading a b r.shaped w.shaped (sym r.written ∙ ap (λ ts. map (λ (t : Token). t.kind) ts) (lex_one bytes ts us r.lexed w.lexed) ∙ w.written)) h k)
