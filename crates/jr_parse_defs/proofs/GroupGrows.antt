-- Where reading the groups of a `switch` stops, what stands before begins them.
use Rattle.std.proofs.Common.{◌≡◌, ℕ, zero, suc, ◌≤◌, true, false, not, List, [], ◌∷◌, ◌++◌, length, Err, refl, sym, ◌∙◌, subst, inl, inr, arith}
use Rattle.std.proofs.lemmas.Bool.{true≢false}
use Rattle.std.specs.List.{AllByRecursion}
use Rattle.jr_base.specs.declared.kind.Kind.{Kind}
use Rattle.jr_base.specs.declared.kind.Kind.TheVariants as kind
use Rattle.jr_base.specs.declared.kind.Symbol.TheVariants as y
use Rattle.jr_base.specs.declared.kind.Keyword.TheVariants as k
use Rattle.jr_tree.specs.Shape.{is_empty, has_stmt, group_fits, IsShapedLabel, IsShapedGroup, AreShapedGroups}
use Rattle.jr_tree.specs.Depth.{deepest, label_depth, group_depth, groups_depth}
use Rattle.jr_tree.specs.Mirror.Stmts as s
use Rattle.jr_parse_laws.specs.declared.fault.Fault.{Fault}
use Rattle.jr_parse_laws.specs.Parsers.{Parser, first, many, many_from}
use Rattle.jr_parse_laws.proofs.Outcomes.{ok_err, chosen, Before, After, stops}
use Rattle.jr_parse_laws.proofs.Stops.{leading_nothing}
use Rattle.jr_parse_expr.specs.Exprs.{next_token}
use Rattle.jr_parse_expr.proofs.Growths.{Growing, leading_then, leading_expr}
use Rattle.jr_parse_defs.specs.Begins.{starts_label}
use Rattle.jr_parse_defs.specs.Stmts as reader
use Rattle.jr_parse_defs.specs.Writing.{write_many, write_label, write_group, write_groups}
use Rattle.jr_parse_defs.proofs.Lists.{list_sound, asunder}
use Rattle.jr_parse_defs.proofs.Expressions.{whole_sound}
use Rattle.jr_parse_defs.proofs.Named.{ReadsOne}
use Rattle.jr_parse_defs.proofs.Groups as groups
use Rattle.jr_parse_defs.proofs.Groups.{groups_sound}
use Rattle.jr_parse_defs.proofs.Grows.{Low, part, gone, on, last, ends_with, choose, many_grow, one_of, leading_many, shaped_append}
use Rattle.jr_parse_defs.proofs.PartGrows.{whole_grow}
use Rattle.jr_parse_defs.proofs.Starters.{GrowsStmt, leading_group, leading_label, leading_word}
use Rattle.jr_parse_defs.proofs.BlockGrows.{all_stmts_grow}

module _ (room : ℕ) (inner outer : Parser s.Stmt) (outers : ReadsOne room true outer) (grow_out : GrowsStmt room true outer) where
  abbrev AreLabels : List s.SwitchLabel → Type 0
  AreLabels ls = (not (is_empty ls) ≡ true) × AllByRecursion IsShapedLabel ls

  abbrev Label : List Kind → Fault × List Kind → Type 0
  Label ts stop = Growing (Low IsShapedLabel label_depth) write_label room ts stop

  label_grow : 1 ≤ room → (ts : List Kind) (stop : Fault × List Kind) → starts_label (first ts) ≡ true → next_token (reader.label_by room inner outer) ts ≡ Err stop → Label ts stop
  label_grow some [] stop starts h = absurd (cc)
  label_grow some (kind.Word k.Case ∷ ts) stop starts h =
      on h (λ e. part (leading_word k.Case) (λ v. s.Case v) (λ z. kind.Sym y.Colon ∷ z) (λ v z. refl) (λ v is. is) (λ v l. l) (whole_grow room some ts stop e))
      (λ v us e d.
      let found = whole_sound room ts (v, us) e in
      subst (λ ts. Label (kind.Word k.Case ∷ ts) stop) (sym found.written)
      (gone (ends_with y.Colon us d (λ u us d. ok_err d)) (leading_then (leading_word k.Case) (leading_expr v)) (s.Case v) (λ z. kind.Sym y.Colon ∷ z) (λ z. refl) found.is found.low))
  label_grow some (kind.Word k.Default ∷ ts) stop starts h =
      gone (ends_with y.Colon ts h (λ u us d. ok_err d)) (leading_word k.Default) s.Default (λ z. kind.Sym y.Colon ∷ z) (λ z. refl) tt (omega arith)
  label_grow some (token ∷ ts) stop starts h = absurd (cc)

  label_shapes : (all more : List s.SwitchLabel) → AllByRecursion (groups.FitsLabel room inner outer outers) all → AreLabels more → AreLabels (all ++ more)
  label_shapes [] more are is = is
  label_shapes (l ∷ all) more are is = (refl, (are.0.0, (shaped_append {Is = groups.FitsLabel room inner outer outers} (λ l is. is.0) all more are.1 is.1)))

  labels_grow : 1 ≤ room → (ts : List Kind) (stop : Fault × List Kind) → many starts_label (next_token (reader.label_by room inner outer)) ts ≡ Err stop → Growing (Low AreLabels (deepest label_depth)) (write_many write_label) room ts stop
  labels_grow some ts stop h =
      many_grow label_depth starts_label (next_token (reader.label_by room inner outer)) refl (groups.FitsLabel room inner outer outers) write_label (groups.label_sound room inner outer outers) (groups.label_longer room inner outer outers) room leading_label
      label_shapes (λ all are. (asunder IsShapedLabel label_depth room all are).1) ts stop h (λ us starts e. one_of {Shape = IsShapedLabel} (λ a is. (refl, (is, tt))) (label_grow some us stop starts e))

  abbrev AGroup : List Kind → Fault × List Kind → Type 0
  AGroup ts stop = Growing (Low IsShapedGroup group_depth) write_group room ts stop

  group_grow : 1 ≤ room → (ts : List Kind) (stop : Fault × List Kind) → starts_label (first ts) ≡ true → reader.group room inner outer ts ≡ Err stop → AGroup ts stop
  unfolding reader.group
  group_grow some ts stop starts h =
      on h (λ e. part leading_nothing (λ ls. s.GroupOf ls s.no_stmts) (λ z. z) (λ ls z. refl) (λ ls is. (is.0, is.1, tt)) (λ ls l. omega arith) (labels_grow some ts stop e))
      (λ ls us e d.
      let are = list_sound starts_label (next_token (reader.label_by room inner outer)) refl (groups.FitsLabel room inner outer outers) write_label (groups.label_sound room inner outer outers) (groups.label_longer room inner outer outers) ts (ls, us) e in
      let both = asunder IsShapedLabel label_depth room ls are.are in
      let low = both.1 in
      let one = groups.some_label room inner outer outers ls us ts starts are.written are.ended in
      subst (λ ts. AGroup ts stop) (sym are.written)
      (part (leading_many write_label leading_label ls) (λ all. s.GroupOf ls all) (λ z. z) (λ all z. refl) (λ all is. (one, both.0, is)) (λ all l. omega arith)
      (all_stmts_grow room inner outer room outers grow_out us stop (last d (λ all us d. ok_err d)))))

  abbrev Groups : List Kind → Fault × List Kind → Type 0
  Groups ts stop = Growing (Low AreShapedGroups groups_depth) write_groups room ts stop

  begun_groups : (turns : ℕ) (ts : List Kind) (stop : Fault × List Kind) → many_from starts_label (reader.group room inner outer) turns ts ≡ Err stop → starts_label (first ts) ≡ true
  begun_groups zero ts stop h = absurd (ok_err h)
  begun_groups (suc turns) ts stop h = choose (starts_label (first ts)) h (λ t g. t) (λ f g. absurd (ok_err g))

  not_alone : (g : s.Group) (us : List Kind) (all : s.Groups) → (has_stmt (groups.stmts_of g) ≡ false → starts_label (first us) ≡ false) → starts_label (first us) ≡ true → group_fits g all ≡ true
  not_alone (s.GroupOf ls s.no_stmts) us all alone starts = absurd (true≢false (sym starts ∙ alone refl))
  not_alone (s.GroupOf ls (s.more_stmts a bs)) us all alone starts = refl

  alone_last : (g : s.Group) → group_fits g s.no_groups ≡ true
  alone_last (s.GroupOf ls s.no_stmts) = refl
  alone_last (s.GroupOf ls (s.more_stmts a bs)) = refl

  groups_from_grow : 1 ≤ room → (turns : ℕ) (ts : List Kind) (stop : Fault × List Kind) → many_from starts_label (reader.group room inner outer) turns ts ≡ Err stop → Groups ts stop
  groups_from_grow some zero ts stop h = absurd (ok_err h)
  groups_from_grow some (suc turns) ts stop h =
      elim (chosen (starts_label (first ts)) _ _ _ h) [
        | inr t ↦ absurd (ok_err t.1)
        | inl t ↦
            (elim (stops (reader.group room inner outer ts) _ stop t.1) [
              | Before e ↦ part leading_nothing (λ g. s.more_groups g s.no_groups) (λ z. z) (λ g z. refl) (λ g is. (is, alone_last g, tt)) (λ g l. omega arith) (group_grow some ts stop t.0 e)
              | After g us e d ↦
                  (let found = groups.group_sound room inner outer outers ts (g, us) t.0 e in
                  let low = groups.group_low room inner outer outers g found.low_labels found.low in
                  let i = last d (λ all us d. ok_err d) in
                  let starts = begun_groups turns us stop i in
                  subst (λ ts. Groups ts stop) (sym found.written)
                  (part (leading_group g) (λ all. s.more_groups g all) (λ z. z) (λ all z. refl) (λ all is. (found.shaped, not_alone g us all found.alone starts, is)) (λ all l. omega arith) (groups_from_grow some turns us stop i)))
            ])
      ]

  pub groups_grow : 1 ≤ room → (ts : List Kind) (stop : Fault × List Kind) → many starts_label (reader.group room inner outer) ts ≡ Err stop → Groups ts stop
  unfolding many
  groups_grow some ts stop h = groups_from_grow some (length ts) ts stop h
