-- The readers of statements by how they begin, or by what stands behind a name, are those by the token.
use Rattle.std.proofs.Common.{◌≡◌, ℕ, Bool, true, false, List, [], ◌∷◌, map, Ok, refl}
use Rattle.jr_base.specs.declared.text.Text.{Text}
use Rattle.jr_base.specs.declared.kind.Kind.{Kind}
use Rattle.jr_base.specs.declared.kind.Kind.TheVariants as kind
use Rattle.jr_base.specs.declared.kind.Symbol.TheVariants as y
use Rattle.jr_base.specs.declared.kind.Keyword.TheVariants as k
use Rattle.jr_tree.specs.Mirror.Stmts as s
use Rattle.jr_tree.specs.Mirror.Stmts.{plain_catch}
use Rattle.jr_tree.specs.declared.tree.Catch.{Catch}
use Rattle.jr_parse_laws.specs.Parsers.{Parser, is_at_word}
use Rattle.jr_parse_expr.specs.Names.{Plain}
use Rattle.jr_parse_defs.specs.Stmts as rule
use Rattle.jr_parse_stmt.specs.Begun.{kind_start, start_at, begun, begun_by}
use Rattle.jr_parse_stmt.specs.Named.{end_of, name_end, plain_named}
use Rattle.jr_parse_stmt.specs.Firsts as firsts

module _ (room : ℕ) (inner : Parser s.Stmt) (outer : Parser s.Stmt) where
  stmt_begins : (declares : Bool) (token : Kind) (ts : List Kind) → rule.stmt_by room inner outer declares token (token ∷ ts) ≡ begun room inner outer declares (kind_start token) (token ∷ ts)
  stmt_begins true (kind.Ident head) ts = refl
  stmt_begins true (kind.Sym y.OpenBrace) ts = refl
  stmt_begins true (kind.Sym y.Semicolon) ts = refl
  stmt_begins true (kind.Sym s) ts = refl
  stmt_begins true (kind.Word k.Do) ts = refl
  stmt_begins true (kind.Word k.While) ts = refl
  stmt_begins true (kind.Word k.If) ts = refl
  stmt_begins true (kind.Word k.For) ts = refl
  stmt_begins true (kind.Word k.Switch) ts = refl
  stmt_begins true (kind.Word k.Throw) ts = refl
  stmt_begins true (kind.Word k.Break) ts = refl
  stmt_begins true (kind.Word k.Continue) ts = refl
  stmt_begins true (kind.Word k.Return) ts = refl
  stmt_begins true (kind.Word k.Try) ts = refl
  stmt_begins true (kind.Word w) ts = refl
  stmt_begins true token ts = refl
  stmt_begins false (kind.Ident head) ts = refl
  stmt_begins false (kind.Sym y.OpenBrace) ts = refl
  stmt_begins false (kind.Sym y.Semicolon) ts = refl
  stmt_begins false (kind.Sym s) ts = refl
  stmt_begins false (kind.Word k.Do) ts = refl
  stmt_begins false (kind.Word k.While) ts = refl
  stmt_begins false (kind.Word k.If) ts = refl
  stmt_begins false (kind.Word k.For) ts = refl
  stmt_begins false (kind.Word k.Switch) ts = refl
  stmt_begins false (kind.Word k.Throw) ts = refl
  stmt_begins false (kind.Word k.Break) ts = refl
  stmt_begins false (kind.Word k.Continue) ts = refl
  stmt_begins false (kind.Word k.Return) ts = refl
  stmt_begins false (kind.Word k.Try) ts = refl
  stmt_begins false (kind.Word w) ts = refl
  stmt_begins false token ts = refl

  pub stmt_is_begun : (declares : Bool) (ts : List Kind) → rule.stmt_of room inner outer declares ts ≡ begun_by room inner outer declares (start_at ts) ts
  unfolding rule.stmt_of
  stmt_is_begun declares [] = refl
  stmt_is_begun declares (token ∷ ts) = stmt_begins declares token ts

  -- ---- behind a name

  named_goes : (declares : Bool) (before : List Text) (last : Text) (token : Kind) (ts : List Kind)
      → rule.named_by room inner outer declares before last token (token ∷ ts) ≡ plain_named room inner outer declares before last (end_of token) (token ∷ ts)
  named_goes true before last (kind.Ident variable) ts = refl
  named_goes false before last (kind.Ident variable) ts = refl
  named_goes true before last (kind.Sym y.OpenBracket) [] = refl
  named_goes true before last (kind.Sym y.OpenBracket) (token ∷ ts) = refl
  named_goes false before last (kind.Sym y.OpenBracket) ts = refl
  named_goes true [] last (kind.Sym y.Colon) ts = refl
  named_goes true (part ∷ before) last (kind.Sym y.Colon) ts = refl
  named_goes false [] last (kind.Sym y.Colon) ts = refl
  named_goes false (part ∷ before) last (kind.Sym y.Colon) ts = refl
  named_goes true [] last (kind.Sym s) ts = refl
  named_goes true (part ∷ before) last (kind.Sym s) ts = refl
  named_goes false [] last (kind.Sym s) ts = refl
  named_goes false (part ∷ before) last (kind.Sym s) ts = refl
  named_goes true [] last token ts = refl
  named_goes true (part ∷ before) last token ts = refl
  named_goes false [] last token ts = refl
  named_goes false (part ∷ before) last token ts = refl

  pub named_is_plain : (declares : Bool) (before : List Text) (last : Text) (ts : List Kind) → rule.named room inner outer declares (Plain before last) ts ≡ plain_named room inner outer declares before last (name_end ts) ts
  unfolding rule.named
  named_is_plain declares before last [] = refl
  named_is_plain declares before last (token ∷ ts) = named_goes declares before last token ts

  -- ---- behind the handlers of a `try`

  pub no_finally : (cs : List Catch) (ts : List Kind) → (cs ≡ [] → ⊥) → is_at_word k.Finally ts ≡ false → rule.finally_part room inner outer (map plain_catch cs) ts ≡ Ok (s.no_block, ts)
  no_finally [] ts some h = absurd (some refl)
  no_finally (c ∷ cs) ts some h = rw h refl

  -- ---- the first part of a `for`

  first_goes : (before : List Text) (last : Text) (token : Kind) (ts : List Kind) → rule.first_named_by room inner outer before last token (token ∷ ts) ≡ firsts.plain_first room inner outer before last (end_of token) (token ∷ ts)
  first_goes before last (kind.Ident variable) ts = refl
  first_goes before last (kind.Sym y.OpenBracket) [] = refl
  first_goes before last (kind.Sym y.OpenBracket) (token ∷ ts) = refl
  first_goes before last (kind.Sym y.Colon) ts = refl
  first_goes before last (kind.Sym s) ts = refl
  first_goes before last token ts = refl

  pub first_is_plain : (before : List Text) (last : Text) (ts : List Kind) → rule.first_named room inner outer (Plain before last) ts ≡ firsts.plain_first room inner outer before last (name_end ts) ts
  unfolding rule.first_named
  first_is_plain before last [] = refl
  first_is_plain before last (token ∷ ts) = first_goes before last token ts

  first_begins : (token : Kind) (ts : List Kind) → rule.for_first_by room inner outer token (token ∷ ts) ≡ firsts.begun room inner outer (token ∷ ts)
  first_begins (kind.Ident head) ts = refl
  first_begins token ts = refl

  pub first_is_begun : (ts : List Kind) → rule.for_first room inner outer ts ≡ firsts.begun room inner outer ts
  unfolding rule.for_first
  first_is_begun [] = refl
  first_is_begun (token ∷ ts) = first_begins token ts
