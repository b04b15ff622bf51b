-- The law of own tokens: what declares or refers by an identifier has that identifier, a call of a constructor its keyword, and a unit ends behind its last token.
use Rattle.std.specs.Prelude.{◌≡◌, ℕ, ◌<◌, ◌≤◌, Bool, true, false, List, [], ◌∷◌, length, Some, slice_get}
use Rattle.jr_base.specs.declared.text.Text.{Text}
use Rattle.jr_base.specs.declared.kind.Kind.{Kind}
use Rattle.jr_base.specs.declared.kind.Kind.TheVariants as kind
use Rattle.jr_tree.specs.declared.tree.Unit as declared_unit
use Rattle.jr_tree.specs.declared.label.Label.{Label}
use Rattle.jr_tree.specs.declared.label.Label.TheVariants as is
use Rattle.jr_tree.specs.declared.label.ImportKind.{ImportKind}
use Rattle.jr_tree.specs.declared.label.ImportKind.TheVariants as importing
use Rattle.jr_tree.specs.Words.{Tokens, which_word}
use Rattle.jr_tree.specs.Tokens.{tokens_of}
use Rattle.jr_tree.specs.Rows.{Rows, label, name, end, program_rows}
use Rattle.jr_index.specs.declared.mark.Mark.{Mark}
use Rattle.jr_index.specs.Marking.{mark_at, program_marks}

-- what declares or refers by an identifier, and a call of a constructor
abbrev pub is_static : ImportKind → Bool
is_static importing.StaticSingle = true
is_static _ = false

abbrev pub has_own : Label → Bool
has_own (is.Import form) = is_static form
has_own (is.Name kind place is_qualified) = true
has_own (is.Class modifiers is_member) = true
has_own (is.Interface modifiers is_member) = true
has_own (is.Field modifiers dims) = true
has_own (is.Method modifiers is_void has_body) = true
has_own (is.Constructor modifiers) = true
has_own (is.Parameter is_final dims) = true
has_own (is.Local is_final dims) = true
has_own is.Labeled = true
has_own (is.Break has_label) = has_label
has_own (is.Continue has_label) = has_label
has_own is.Select = true
has_own is.SuperSelect = true
has_own (is.Call receiver) = true
has_own (is.ConstructorCall which) = true
has_own _ = false

-- its token
abbrev pub own_kind : Label → Text → Kind
own_kind (is.ConstructorCall which) x = kind.Word (which_word which)
own_kind _ x = kind.Ident x

-- the own tokens of the rows from one number up to another are theirs
pub record AreOwn (ts : Tokens) (p : Rows) (ms : List Mark) (from to : ℕ) : Type 0 where
  pub own : (n : ℕ) → from ≤ n → n < to → has_own (label p n) ≡ true → slice_get ts (mark_at ms n).own ≡ Some (own_kind (label p n) (name p n))

-- of these units, whose rows begin at a number, one behind another up to the last row
pub data AreUnitsOwn (p : Rows) (ms : List Mark) : List declared_unit.Unit → ℕ → Type 0 where
  none : {at : ℕ} → at ≡ length p → AreUnitsOwn p ms [] at
  more : {u : declared_unit.Unit} {units : List declared_unit.Unit} {at : ℕ} → label p at ≡ is.Unit → at < end p at
      → AreOwn (tokens_of u) p ms at (end p at) → (mark_at ms at).after ≡ length (tokens_of u) → AreUnitsOwn p ms units (end p at)
      → AreUnitsOwn p ms (u ∷ units) at

-- the law: the units of a program stand behind its first row
abbrev pub MarksAreOwn : Type 0
MarksAreOwn = (units : List declared_unit.Unit) → AreUnitsOwn (program_rows units) (program_marks units) units 1
