-- The run of statements for which a request asks (JLS 8.8.7.1, 14.2).
use Rattle.std.specs.Prelude.{◌≡◌, ℕ, zero, suc, Bool, true, false, not, ◌&&◌, if◌then◌else◌, List, length, Option, Some, None, unwrap_or, nat_eq, nat_le, nat_lt, slice_get}
use Rattle.jr_base.specs.declared.token.Span.{Span}
use Rattle.jr_base.specs.declared.token.Token.{Token}
use Rattle.jr_tree.specs.declared.label.Label.{Label}
use Rattle.jr_tree.specs.declared.label.Label.TheVariants as is
use Rattle.jr_tree.specs.Rows.{Rows, label, parent, end, role_at}
use Rattle.jr_plain.specs.Declarations.{is_type}
use Rattle.jr_plain.specs.Scope.{is_block}
use Rattle.jr_plain.specs.Search.{first_below}
use Rattle.jr_supers.specs.Tabled.{is_callable}
use Rattle.jr_marks.specs.declared.marks.Marks.{Marks}
use Rattle.jr_marks.specs.Places.{mark_of, tokens_of}
use Rattle.jr_change.specs.declared.change.RowRange.{RowRange}
use Rattle.jr_draft.specs.Drafting.{unit_row}
use Rattle.jr_extract.specs.declared.run.Run.{Run}
use Rattle.jr_extract.specs.declared.run.TokenRange.{TokenRange}

-- ---- the tokens of a range

abbrev pub ends_behind : ℕ → Option Token → Bool
ends_behind offset None = false
ends_behind offset (Some t) = nat_lt offset t.span.end

-- how many tokens, from the first on, end at an offset or before it
abbrev pub count_before : List Token → ℕ → ℕ
count_before ts offset = unwrap_or (first_below (length ts) (λ k. ends_behind offset (slice_get ts k))) (length ts)

abbrev pub begins_behind : ℕ → Option Token → Bool
begins_behind offset None = true
begins_behind offset (Some t) = nat_le offset t.span.start

-- there are tokens between, and none is cut
abbrev pub is_whole : List Token → Span → ℕ → ℕ → Bool
is_whole ts range first after = nat_lt first after && begins_behind range.start (slice_get ts first) && begins_behind range.end (slice_get ts after)

abbrev pub tokens_between : List Token → Span → ℕ → ℕ → Option TokenRange
tokens_between ts range first after = if is_whole ts range first after then Some (record { first = first; after = after }) else None

-- the tokens that stand in a range, where there are any and none is cut
abbrev pub tokens_in : List Token → Span → Option TokenRange
tokens_in ts range = tokens_between ts range (count_before ts range.start) (count_before ts range.end)

-- ---- the statements of these tokens

-- the row stands right in a block, and begins with the token
abbrev pub begins_statement : Marks → ℕ → ℕ → Bool
begins_statement m token n = nat_eq (mark_of m n).first token && is_block (label m.rows.now (parent m.rows.now n))

-- the first such row of a unit
abbrev pub statement_at : Marks → ℕ → ℕ → Option ℕ
statement_at m unit token = let top = unit_row m unit in first_below (end m.rows.now top) (λ n. nat_le top n && begins_statement m token n)

-- the row stands right in the block
abbrev pub is_in_block : Rows → ℕ → ℕ → Bool
is_in_block p block n = nat_lt n (length p) && nat_eq (parent p n) block

-- it does, and ends before the token
abbrev pub ends_within : Marks → ℕ → ℕ → ℕ → Bool
ends_within m block token n = is_in_block m.rows.now block n && nat_le (mark_of m n).after token

-- it does not
abbrev pub is_past : Marks → ℕ → ℕ → ℕ → Bool
is_past m block token n = not (ends_within m block token n)

abbrev pub ends_at : Marks → ℕ → ℕ → Bool
ends_at m token n = nat_eq (mark_of m n).after token

-- the row behind statements of a block, from this one on, of which the last ends right before the token; at most so many
abbrev pub end_from : Marks → ℕ → ℕ → ℕ → ℕ → Option ℕ
end_from m block token zero n = None
end_from m block token (suc more) n =
    if ends_within m block token n then (if ends_at m token n then Some (end m.rows.now n) else end_from m block token more (end m.rows.now n)) else None

abbrev pub end_of_statements : Marks → ℕ → ℕ → Option ℕ
end_of_statements m first token = end_from m (parent m.rows.now first) token (length m.rows.now) first

-- ---- where they stand

-- the row is a method or a constructor
abbrev pub is_member : Rows → ℕ → Bool
is_member p n = is_callable (role_at p n)

-- the method or constructor that is the row or round it, at most so many rows out; none where a type comes first
abbrev pub member_from : Rows → ℕ → ℕ → Option ℕ
member_from p zero n = None
member_from p (suc more) n = if is_member p n then Some n else if is_type p n then None else member_from p more (parent p n)

abbrev pub member_round : Rows → ℕ → Option ℕ
member_round p n = member_from p (length p) n

abbrev pub calls_constructor : Label → Bool
calls_constructor (is.ConstructorCall which) = true
calls_constructor _ = false

-- the first call of a constructor by `this` or `super` among the rows
abbrev pub constructor_call : Rows → RowRange → Option ℕ
constructor_call p rows = first_below rows.end (λ n. nat_le rows.first n && calls_constructor (label p n))

-- ---- the run

abbrev pub run_without : Run → Option ℕ → Option Run
run_without run None = Some run
run_without run (Some call) = None

abbrev pub run_in : Marks → TokenRange → RowRange → Option ℕ → Option Run
run_in m tokens rows None = None
run_in m tokens rows (Some member) = run_without (record { tokens = tokens; rows = rows; member = member }) (constructor_call m.rows.now rows)

abbrev pub run_to : Marks → TokenRange → ℕ → Option ℕ → Option Run
run_to m tokens first None = None
run_to m tokens first (Some behind) = run_in m tokens (record { first = first; end = behind }) (member_round m.rows.now first)

abbrev pub run_from : Marks → TokenRange → Option ℕ → Option Run
run_from m tokens None = None
run_from m tokens (Some first) = run_to m tokens first (end_of_statements m first tokens.after)

abbrev pub run_of : Marks → ℕ → Option TokenRange → Option Run
run_of m unit None = None
run_of m unit (Some tokens) = run_from m tokens (statement_at m unit tokens.first)

-- whole statements of one block in a method or constructor whose tokens are just those that stand in the range, and none of which calls a constructor
abbrev pub run_at : Marks → ℕ → Span → Option Run
run_at m unit range = run_of m unit (tokens_in (tokens_of m unit) range)

-- the row stands in the run
abbrev pub holds : Run → ℕ → Bool
holds run n = nat_le run.rows.first n && nat_lt n run.rows.end

-- its tokens begin with those of a statement of a block, and end with those of one of the same block
pub record IsOfStatements (m : Marks) (run : Run) : Type 0 where
  pub block : is_block (label m.rows.now (parent m.rows.now run.rows.first)) ≡ true
  pub begins : (mark_of m run.rows.first).first ≡ run.tokens.first
  pub last : ℕ
  pub beside : parent m.rows.now last ≡ parent m.rows.now run.rows.first
  pub ends : (mark_of m last).after ≡ run.tokens.after
  pub behind : end m.rows.now last ≡ run.rows.end
