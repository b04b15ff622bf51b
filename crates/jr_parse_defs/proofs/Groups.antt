-- Reading the groups of a switch is exact in both directions.
use Rattle.std.proofs.Common.{◌≡◌, ℕ, zero, suc, ◌≤◌, true, false, not, cond, List, [], ◌∷◌, length, Ok, refl, ap, ◌∙◌, subst, inl, inr, arith}
use Rattle.std.specs.List.{AllByRecursion}
use Rattle.jr_base.specs.declared.kind.Kind.{Kind}
use Rattle.jr_base.specs.declared.kind.Kind.TheVariants as kind
use Rattle.jr_base.specs.declared.kind.Symbol.TheVariants as y
use Rattle.jr_base.specs.declared.kind.Keyword.TheVariants as k
use Rattle.jr_tree.specs.Shape.{is_empty, has_stmt, group_fits, IsShapedLabel, IsShapedGroup, AreShapedGroups}
use Rattle.jr_tree.specs.Depth.{deepest, label_depth, stmts_depth, group_depth, groups_depth}
use Rattle.jr_tree.specs.Tokens.{group_tokens, label_tokens}
use Rattle.jr_tree.specs.Mirror.Stmts as s
use Rattle.jr_parse_laws.specs.Parsers.{Parser, first, refuse, many, many_from}
use Rattle.jr_parse_laws.proofs.Outcomes.{bind_ok, chosen, ok_is, err_ok}
use Rattle.jr_parse_laws.proofs.Lists.{Shortens}
use Rattle.jr_parse_expr.specs.Exprs.{Nothing, next_token, expr}
use Rattle.jr_parse_expr.specs.Writing.{write_expr}
use Rattle.jr_parse_defs.specs.Begins.{starts_block_stmt, starts_label}
use Rattle.jr_parse_defs.specs.Stmts as reader
use Rattle.jr_parse_defs.specs.Writing.{write_label, write_labels, write_stmts, write_group, write_groups}
use Rattle.jr_parse_defs.proofs.Written.{group_written, label_written}
use Rattle.jr_parse_defs.proofs.Tokens.{eats}
use Rattle.jr_parse_defs.proofs.Lists.{together, asunder, Sound, list_read, list_sound}
use Rattle.jr_parse_defs.proofs.Expressions.{whole, whole_sound}
use Rattle.jr_parse_defs.proofs.Endings.{Calm, calm_label, stmt_no_label, label_no_stmt, stmt_starts}
use Rattle.jr_parse_defs.proofs.Named.{ReadsOne}
use Rattle.jr_parse_defs.proofs.Blocks.{stmts_listed, longer_first, stmts_read, stmts_sound}

abbrev pub labels_of : s.Group → List s.SwitchLabel
labels_of (s.GroupOf labels all) = labels

abbrev pub stmts_of : s.Group → s.Stmts
stmts_of (s.GroupOf labels all) = all

-- ---- labels

module _ (room : ℕ) (inner outer : Parser s.Stmt) (reads : ReadsOne room true outer) where
  abbrev pub FitsLabel : s.SwitchLabel → Type 0
  FitsLabel l = IsShapedLabel l × (label_depth l ≤ room)

  abbrev pub label : Parser s.SwitchLabel
  label = next_token (reader.label_by room inner outer)

  label_read : (l : s.SwitchLabel) (rest : List Kind) → FitsLabel l → label (write_label l rest) ≡ Ok (l, rest)
  label_read (s.Case value) rest is = rw (whole room value (kind.Sym y.Colon ∷ rest) is.0 is.1 (record { cast = refl; none = refl })) refl
  label_read s.Default rest is = refl

  pub label_sound : Sound FitsLabel write_label label
  label_sound [] r h = absurd (err_ok h)
  label_sound (kind.Word k.Case ∷ ts) r h =
      let e = bind_ok (expr room Nothing 0 ts) _ r h in
      let found = whole_sound room ts e.0 e.1 in
      let a = eats y.Colon e.0.1 _ r e.2 in
      subst (λ (r : s.SwitchLabel × List Kind). FitsLabel r.0 × (kind.Word k.Case ∷ ts ≡ write_label r.0 r.1)) (ok_is a.more)
      ((found.is, found.low), ap (λ us. kind.Word k.Case ∷ us) (found.written ∙ ap (write_expr e.0.0) a.written))
  label_sound (kind.Word k.Default ∷ ts) r h =
      let a = eats y.Colon ts _ r h in
      subst (λ (r : s.SwitchLabel × List Kind). FitsLabel r.0 × (kind.Word k.Default ∷ ts ≡ write_label r.0 r.1)) (ok_is a.more) ((tt, omega arith), ap (λ us. kind.Word k.Default ∷ us) a.written)
  label_sound (token ∷ ts) r h = absurd (err_ok h)

  pub label_longer : (l : s.SwitchLabel) (rest : List Kind) → FitsLabel l → suc (length rest) ≤ length (write_label l rest)
  label_longer (s.Case value) rest is = longer_first (label_tokens (s.Case value)) rest (write_label (s.Case value) rest) (kind.Word k.Case) (label_written (s.Case value) rest) refl
  label_longer s.Default rest is = omega arith

  label_starts : (l : s.SwitchLabel) (rest : List Kind) → starts_label (first (write_label l rest)) ≡ true
  label_starts (s.Case value) rest = refl
  label_starts s.Default rest = refl

  labels_read : (ls : List s.SwitchLabel) (rest : List Kind) → AllByRecursion IsShapedLabel ls → deepest label_depth ls ≤ room → starts_label (first rest) ≡ false → many starts_label label (write_labels ls rest) ≡ Ok (ls, rest)
  labels_read ls rest h low over =
      list_read starts_label label refl FitsLabel write_label label_sound label_longer (λ o. Unit {0}) (λ o h. tt) (λ l rest is. label_starts l rest) (λ l rest is h. label_read l rest is) ls rest
      (together IsShapedLabel label_depth room ls h low) over tt

  -- a group before what stands behind it
  group_read : (g : s.Group) (rest : List Kind) → IsShapedGroup g → group_depth g ≤ room → starts_block_stmt (first rest) ≡ false → Calm (first rest) → (has_stmt (stmts_of g) ≡ false → starts_label (first rest) ≡ false)
      → reader.group room inner outer (write_group g rest) ≡ Ok (g, rest)
  unfolding reader.group
  group_read (s.GroupOf ls s.no_stmts) rest h low over calm alone =
      rw (labels_read ls rest h.1 (omega arith) (alone refl), stmts_read room inner outer room reads s.no_stmts rest tt (omega arith) over calm) refl
  group_read (s.GroupOf ls (s.more_stmts a all)) rest h low over calm alone =
      let ts = write_stmts (s.more_stmts a all) rest in
      rw (labels_read ls ts h.1 (omega arith) (stmt_no_label (first ts) (stmt_starts a (write_stmts all rest) h.2.0)), stmts_read room inner outer room reads (s.more_stmts a all) rest h.2 (omega arith) over calm)
      (ap (λ all. Ok (s.GroupOf ls all, rest)) (stmts_listed (s.more_stmts a all)))

  pub record GroupFound (ts : List Kind) (r : s.Group × List Kind) : Type 0 where
    pub shaped : IsShapedGroup r.0
    pub low_labels : deepest label_depth (labels_of r.0) ≤ room
    pub low : stmts_depth (stmts_of r.0) ≤ room
    pub written : ts ≡ write_group r.0 r.1
    pub over : starts_block_stmt (first r.1) ≡ false
    -- no label follows labels alone
    pub alone : has_stmt (stmts_of r.0) ≡ false → starts_label (first r.1) ≡ false

  pub some_label : (ls : List s.SwitchLabel) (us ts : List Kind) → starts_label (first ts) ≡ true → ts ≡ write_labels ls us → starts_label (first us) ≡ false → not (is_empty ls) ≡ true
  some_label [] us ts starts same over = absurd (let g : starts_label (first ts) ≡ starts_label (first us) = ap (λ ts. starts_label (first ts)) same in cc)
  some_label (l ∷ ls) us ts starts same over = refl

  label_after : (all : s.Stmts) (us rest : List Kind) → us ≡ write_stmts all rest → starts_label (first us) ≡ false → has_stmt all ≡ false → starts_label (first rest) ≡ false
  label_after s.no_stmts us rest same over h = subst (λ us. starts_label (first us) ≡ false) same over
  label_after (s.more_stmts a all) us rest same over h = absurd (cc)

  pub group_sound : (ts : List Kind) (r : s.Group × List Kind) → starts_label (first ts) ≡ true → reader.group room inner outer ts ≡ Ok r → GroupFound ts r
  unfolding reader.group
  group_sound ts r starts h =
      let ls = bind_ok (many starts_label label ts) _ r h in
      let are = list_sound starts_label label refl FitsLabel write_label label_sound label_longer ts ls.0 ls.1 in
      let both = asunder IsShapedLabel label_depth room ls.0.0 are.are in
      let all = bind_ok (reader.stmts room inner outer ls.0.1) _ r ls.2 in
      let found = stmts_sound room inner outer room reads ls.0.1 all.0 all.1 in
      subst (GroupFound ts) (ok_is all.2)
      (record {
        shaped = (some_label ls.0.0 ls.0.1 ts starts are.written are.ended, both.0, found.shaped);
        low_labels = both.1;
        low = found.low;
        written = are.written ∙ ap (write_labels ls.0.0) found.written;
        over = found.over;
        alone = label_after (s.stmts all.0.0) ls.0.1 all.0.1 found.written are.ended;
      })

  -- ---- the groups of a switch

  abbrev pub listed_groups : s.Groups → List s.Group
  listed_groups s.no_groups = []
  listed_groups (s.more_groups g all) = g ∷ listed_groups all

  pub groups_listed : (all : s.Groups) → s.groups (listed_groups all) ≡ all
  groups_listed s.no_groups = refl
  groups_listed (s.more_groups g all) = ap (s.more_groups g) (groups_listed all)

  group_starts : (g : s.Group) (rest : List Kind) → IsShapedGroup g → starts_label (first (write_group g rest)) ≡ true
  group_starts (s.GroupOf [] all) rest h = absurd (let e = h.0 in cc)
  group_starts (s.GroupOf (l ∷ ls) all) rest h = label_starts l (write_labels ls (write_stmts all rest))

  group_longer : (g : s.Group) (rest : List Kind) → IsShapedGroup g → suc (length rest) ≤ length (write_group g rest)
  group_longer (s.GroupOf [] all) rest h = absurd (let e = h.0 in cc)
  group_longer (s.GroupOf (s.Case value ∷ ls) all) rest h =
      let g = s.GroupOf (s.Case value ∷ ls) all in longer_first (group_tokens g) rest (write_group g rest) (kind.Word k.Case) (group_written g rest) refl
  group_longer (s.GroupOf (s.Default ∷ ls) all) rest h =
      let g = s.GroupOf (s.Default ∷ ls) all in longer_first (group_tokens g) rest (write_group g rest) (kind.Word k.Default) (group_written g rest) refl

  abbrev close : List Kind → List Kind
  close end = kind.Sym y.CloseBrace ∷ end

  no_stmt_after : (all : s.Groups) (end : List Kind) → AreShapedGroups all → starts_block_stmt (first (write_groups all (close end))) ≡ false
  no_stmt_after s.no_groups end h = refl
  no_stmt_after (s.more_groups g all) end h = label_no_stmt _ (group_starts g (write_groups all (close end)) h.0)

  calm_after : (all : s.Groups) (end : List Kind) → AreShapedGroups all → Calm (first (write_groups all (close end)))
  calm_after s.no_groups end h = record { no_catch = refl; no_finally = refl; no_else = refl }
  calm_after (s.more_groups g all) end h = calm_label _ (group_starts g (write_groups all (close end)) h.0)

  alone_fits : (g : s.Group) (all : s.Groups) (end : List Kind) → group_fits g all ≡ true → has_stmt (stmts_of g) ≡ false → starts_label (first (write_groups all (close end))) ≡ false
  alone_fits g s.no_groups end h none = refl
  alone_fits (s.GroupOf ls s.no_stmts) (s.more_groups a all) end h none = absurd (cc)
  alone_fits (s.GroupOf ls (s.more_stmts b bs)) (s.more_groups a all) end h none = absurd (cc)

  groups_from_read : (turns : ℕ) (all : s.Groups) (end : List Kind) → length (write_groups all (close end)) ≤ turns → AreShapedGroups all → groups_depth all ≤ room
      → many_from starts_label (reader.group room inner outer) turns (write_groups all (close end)) ≡ Ok (listed_groups all, close end)
  groups_from_read zero s.no_groups end l h low = refl
  groups_from_read zero (s.more_groups g all) end l h low = absurd (let long = group_longer g (write_groups all (close end)) h.0 in omega arith)
  groups_from_read (suc turns) s.no_groups end l h low = refl
  groups_from_read (suc turns) (s.more_groups g all) end l h low =
      let ts = write_groups all (close end) in
      let long = group_longer g ts h.0 in
      rw (
        group_starts g ts h.0,
        group_read g ts h.0 (omega arith) (no_stmt_after all end h.2) (calm_after all end h.2) (alone_fits g all end h.1),
        groups_from_read turns all end (omega arith) h.2 (omega arith),
      ) refl

  pub groups_read : (all : s.Groups) (end : List Kind) → AreShapedGroups all → groups_depth all ≤ room
      → many starts_label (reader.group room inner outer) (write_groups all (close end)) ≡ Ok (listed_groups all, close end)
  unfolding many
  groups_read all end h low = groups_from_read (length (write_groups all (close end))) all end (omega arith) h low

  pub record GroupsFound (ts : List Kind) (r : List s.Group × List Kind) : Type 0 where
    pub shaped : AreShapedGroups (s.groups r.0)
    pub low : groups_depth (s.groups r.0) ≤ room
    pub written : ts ≡ write_groups (s.groups r.0) r.1

  pub groups_shorten : Shortens (λ ts. cond (starts_label (first ts)) (reader.group room inner outer ts) (refuse ts))
  groups_shorten ts g rest h =
      elim (chosen (starts_label (first ts)) _ _ _ h) [
        | inl t ↦
            (let found = group_sound ts (g, rest) t.0 t.1 in
            let l = group_longer g rest found.shaped in
            let same = ap (λ (ts : List Kind). length ts) found.written in
            omega arith)
        | inr t ↦ absurd (err_ok t.1)
      ]

  -- a group of labels alone is the last
  fits_before : (g : s.Group) (all : s.Groups) (us rest : List Kind) → AreShapedGroups all → us ≡ write_groups all rest → (has_stmt (stmts_of g) ≡ false → starts_label (first us) ≡ false) → group_fits g all ≡ true
  fits_before (s.GroupOf ls (s.more_stmts a bs)) all us rest h same alone = refl
  fits_before (s.GroupOf ls s.no_stmts) s.no_groups us rest h same alone = refl
  fits_before (s.GroupOf ls s.no_stmts) (s.more_groups b all) us rest h same alone =
      absurd (let over = alone refl in let starts = group_starts b (write_groups all rest) h.0 in let g : starts_label (first us) ≡ starts_label (first (write_group b (write_groups all rest))) = ap (λ ts. starts_label (first ts)) same in cc)

  pub group_low : (g : s.Group) → deepest label_depth (labels_of g) ≤ room → stmts_depth (stmts_of g) ≤ room → group_depth g ≤ room
  group_low (s.GroupOf ls all) a b = omega arith

  groups_from_sound : (turns : ℕ) (ts : List Kind) (r : List s.Group × List Kind) → length ts ≤ turns → many_from starts_label (reader.group room inner outer) turns ts ≡ Ok r → GroupsFound ts r
  groups_from_sound zero [] r l h = subst (GroupsFound []) (ok_is h) (record { shaped = tt; low = omega arith; written = refl })
  groups_from_sound zero (token ∷ ts) r l h = absurd (omega arith)
  groups_from_sound (suc turns) ts r l h =
      elim (chosen (starts_label (first ts)) _ _ _ h) [
        | inl t ↦
            (let g = bind_ok (reader.group room inner outer ts) _ r t.1 in
            let one = group_sound ts g.0 t.0 g.1 in
            let all = bind_ok (many_from starts_label (reader.group room inner outer) turns g.0.1) _ r g.2 in
            let long = group_longer g.0.0 g.0.1 one.shaped in
            let same = ap (λ (ts : List Kind). length ts) one.written in
            let others = groups_from_sound turns g.0.1 all.0 (omega arith) all.1 in
            let low = group_low g.0.0 one.low_labels one.low in
            let low_others : groups_depth (s.groups all.0.0) ≤ room = others.low in
            subst (GroupsFound ts) (ok_is all.2)
            (record {
              shaped = (one.shaped, fits_before g.0.0 (s.groups all.0.0) g.0.1 all.0.1 others.shaped others.written one.alone, others.shaped);
              low = omega arith;
              written = one.written ∙ ap (write_group g.0.0) others.written;
            }))
        | inr t ↦ subst (GroupsFound ts) (ok_is t.1) (record { shaped = tt; low = omega arith; written = refl })
      ]

  pub groups_sound : (ts : List Kind) (r : List s.Group × List Kind) → many starts_label (reader.group room inner outer) ts ≡ Ok r → GroupsFound ts r
  unfolding many
  groups_sound ts r h = groups_from_sound (length ts) ts r (omega arith) h
