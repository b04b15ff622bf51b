-- `switch` and `try`, whose parts are of several kinds (JLS 14.11, 14.20).
use Rattle.std.proofs.Common.{◌≡◌, refl, sym, ◌∙◌, ap, subst, ℕ, ◌+◌, ◌<◌, ◌≤◌, ◌^◌, ℤ, Bool, true, false, cond, List, [], ◌∷◌, ◌++◌, map, length, Option, Some, None, nat_lt, arith}
use Rattle.std.proofs.lemmas.Bool.Decides.{Decides-ltb}
use Rattle.std.proofs.lemmas.Option.{none-some, same_Some}
use Rattle.std.specs.Prelude.{option_map}
use Rattle.jr_base.specs.declared.ids.DeclId.{DeclId}
use Rattle.jr_base.specs.declared.constant.Const.{Const}
use Rattle.jr_core.specs.declared.code.Catch.{Catch, roll-Catch}
use Rattle.jr_core.specs.declared.code.Code.{Code}
use Rattle.jr_core.specs.declared.code.Code.TheVariants as c
use Rattle.jr_core.specs.declared.code.Group.{Group, roll-Group}
use Rattle.jr_core.specs.declared.code.SwitchLabel.{SwitchLabel}
use Rattle.jr_core.specs.declared.code.SwitchLabel.TheVariants as l
use Rattle.jr_tree.specs.Rows.{end}
use Rattle.jr_defs.specs.declared.referent.Element.{Element}
use Rattle.jr_defs.specs.declared.referent.Element.TheVariants as element
use Rattle.jr_defs.specs.declared.referent.RowType.{RowType}
use Rattle.jr_defs.specs.Operators.{as_int}
use Rattle.jr_codes.specs.declared.source.Source.{Source}
use Rattle.jr_codes.specs.Facts.{Facts}
use Rattle.jr_codes.specs.Making.{Below, AreBefore, BeginsFrom, Parted}
use Rattle.jr_codes.specs.Waiting.{front, behind, top_before, TakesFront}
use Rattle.jr_codes.specs.Reads.{rows_of, facts, IsReadAt}
use Rattle.jr_codes.proofs.Fronts.{front_none, behind_none}
use Rattle.jr_expressions.specs.Expressions.{codes_of}
use Rattle.jr_expressions.specs.Stacks.{Stacks, stacks_of, AreFrom, AreRising, ComesTo}
use Rattle.jr_expressions.specs.Statements.{Part, code_part, case_part, group_part, catch_part, Parts, Comes, part, strange, as_code, as_case, as_group, as_catch, those, codes, items, is_code, all_are, alone, case_by, case_made, default_made, switch_made, group_made, catch_by, catch_made, try_by, try_made}
use Rattle.jr_expressions.proofs.Joined.{rising_from, those_from, those_joined, those_parted, stacks_are}
use Rattle.jr_expressions.proofs.Standing.{first_or, others, left_count}
use Rattle.jr_expressions.proofs.Operated.{one_counted, two_counted}
use Rattle.jr_elab.specs.Stacked.{stacks, Does, case_label, caught_class, caught, TakesLast}
use Rattle.jr_elab.proofs.Left.{none_added, parts_taken, row_on_top, none_inside, none_under, not_none, only_codes, only_in_group, only_in_try, only_groups, no_parts}
use Rattle.jr_elab.proofs.Looped.{behind_before}

-- what waits of a kind, where none of it stands inside
pub outside : {T : Type 0} {was : List (ℕ × T)} (kind : Part → Option T) (inner outer : Parts) → was ≡ those kind (inner ++ outer) → those kind inner ≡ [] → was ≡ those kind outer
outside kind inner outer is none = is ∙ those_joined kind inner outer ∙ ap (λ xs. xs ++ those kind outer) none

-- ---- the parts inside a row are those before its end

inside_not : (e r : ℕ) → r < e → e ≤ r → ⊥
inside_not e r lt le = omega (arith, lt, le)

not_less : (b : Bool) (k e : ℕ) → nat_lt k e ≡ b → e ≤ k → b ≡ false
not_less true k e lt le = let less = (Decides-ltb k e).0 lt in absurd (inside_not e k less le)
not_less false k e lt le = refl

up_to : (a b k : ℕ) → a ≤ b → b ≤ k → a ≤ k
up_to a b k le more = omega (arith, le, more)

top_after : {T : Type 0} → (stop e : ℕ) (rest : List (ℕ × T)) → stop ≤ e → BeginsFrom e rest → top_before stop rest ≡ false
top_after stop e [] le after = refl
top_after stop e (p ∷ ps) le after = not_less (nat_lt p.0 stop) p.0 stop refl (up_to stop e p.0 le after)

front_within : {T : Type 0} → (stop e : ℕ) (parts rest : List (ℕ × T)) → stop ≤ e → BeginsFrom e rest → front stop (parts ++ rest) ≡ front stop parts
front_within stop e [] rest le after = front_none stop rest (top_after stop e rest le after)
front_within stop e (p ∷ ps) rest le after = ap (λ xs. cond (nat_lt p.0 stop) (p.1 ∷ xs) []) (front_within stop e ps rest le after)

behind_by : {T : Type 0} → (b : Bool) (p : ℕ × T) (xs zs ps rest : List (ℕ × T)) → xs ≡ zs ++ rest → cond b xs (p ∷ (ps ++ rest)) ≡ cond b zs (p ∷ ps) ++ rest
behind_by true p xs zs ps rest same = same
behind_by false p xs zs ps rest same = refl

behind_within : {T : Type 0} → (stop e : ℕ) (parts rest : List (ℕ × T)) → stop ≤ e → BeginsFrom e rest → behind stop (parts ++ rest) ≡ behind stop parts ++ rest
behind_within stop e [] rest le after = behind_none stop rest (top_after stop e rest le after)
behind_within stop e (p ∷ ps) rest le after = behind_by (nat_lt p.0 stop) p (behind stop (ps ++ rest)) (behind stop ps) ps rest (behind_within stop e ps rest le after)

front_all : {T : Type 0} → (e : ℕ) (parts : List (ℕ × T)) → AreBefore e parts → front e parts ≡ map (λ p. p.1) parts
front_all e [] h = refl
front_all e (p ∷ ps) h = ap (λ b. cond b (p.1 ∷ front e ps) []) ((Decides-ltb p.0 e).1 h.0) ∙ ap (λ xs. p.1 ∷ xs) (front_all e ps h.1)

behind_all : {T : Type 0} → (e : ℕ) (parts : List (ℕ × T)) → AreBefore e parts → behind e parts ≡ []
behind_all e [] h = refl
behind_all e (p ∷ ps) h = ap (λ b. cond b (behind e ps) (p ∷ ps)) ((Decides-ltb p.0 e).1 h.0) ∙ behind_all e ps h.1

itself : (e : ℕ) → e ≤ e
itself e = omega arith

pub taken_inside : {T : Type 0} {e : ℕ} {old new parts rest : List (ℕ × T)} {all : List T} → Parted e old parts rest → TakesFront e old new all → all ≡ map (λ p. p.1) parts
taken_inside {T} {e} {old} {new} {parts} {rest} {all} h takes =
    takes.taken ∙ ap (front e) h.is ∙ front_within e e parts rest (itself e) h.after ∙ front_all e parts h.inside

pub left_outside : {T : Type 0} {e : ℕ} {old new parts rest : List (ℕ × T)} {all : List T} → Parted e old parts rest → TakesFront e old new all → new ≡ rest
left_outside {T} {e} {old} {new} {parts} {rest} {all} h takes =
    takes.left ∙ ap (behind e) h.is ∙ behind_within e e parts rest (itself e) h.after ∙ ap (λ xs. xs ++ rest) (behind_all e parts h.inside)

-- ---- what comes of a row

pub comes_part : (m : Comes) (x : Part) (n : ℕ) (inner outer : Parts) (new : Stacks) → m ≡ part x → new ≡ stacks_of ((n, x) ∷ outer) → ComesTo m n inner outer new
comes_part m x n inner outer new is st = subst (λ k. ComesTo k n inner outer new) (sym is) st

pub alone_is : (inner : Parts) (made : Below → Comes) → all_are is_code inner ≡ true → alone inner made ≡ made (codes inner)
alone_is inner made only = ap (λ b. cond b (made (codes inner)) strange) only

-- ---- `case` and `default`

case_by_is : (o : Option ℤ) (label : SwitchLabel) → option_map l.Case o ≡ Some label → case_by o ≡ part (case_part label)
case_by_is None label is = absurd (none-some label is)
case_by_is (Some z) label is = ap (λ x. part (case_part x)) (same_Some (l.Case z) label is)

case_is : (value : Option Const) (label : SwitchLabel) (p : ℕ × Code) → case_label value ≡ Some label → case_made value (p ∷ []) ≡ part (case_part label)
case_is None label p is = absurd (none-some label is)
case_is (Some v) label p is = case_by_is (as_int v) label is

pub case_does : {s : Source} {n row : ℕ} {given : Code} {made : SwitchLabel} {old left : Below} {labels new : List (ℕ × SwitchLabel)} (groups : List (ℕ × Group)) (catches : List (ℕ × Catch)) → (n + 1 < 2 ^ 32 → row ≡ n + 1)
    → old ≡ (row, given) ∷ left → case_label ((facts s).value row) ≡ Some made → new ≡ (n, made) ∷ labels
    → Does s n (λ parts. alone parts (λ below. case_made ((facts s).value (n + 1)) below)) (stacks old labels groups catches) (stacks left new groups catches)
case_does {s} {n} {row} {given} {made} {old} {left} {labels} {new} groups catches first was is st = record {
  does = λ read inner outer h all settled.
      let value : Option Const = (facts s).value (n + 1) in
      let no_label : those as_case inner ≡ [] = none_under as_case n made inner outer labels new st (ap (λ x. x.of_label) all) settled.label in
      let no_group : those as_group inner ≡ [] = none_inside as_group n inner outer groups h.rising (ap (λ x. x.of_group) all) settled.group in
      let no_catch : those as_catch inner ≡ [] = none_inside as_catch n inner outer catches h.rising (ap (λ x. x.of_catch) all) settled.catch in
      let taken : (codes inner ≡ (row, given) ∷ []) × (left ≡ codes outer) = parts_taken ((row, given) ∷ []) (codes inner) left (codes outer) (sym was ∙ ap (λ x. x.of_code) all ∙ those_joined as_code inner outer)
      (settled.label_code (row_on_top n made labels new st)) in
      comes_part (alone inner (λ below. case_made value below)) (case_part made) n inner outer (stacks left new groups catches)
      (alone_is inner (λ below. case_made value below) (only_codes inner no_label no_group no_catch) ∙ ap (case_made value) taken.0
      ∙ case_is value made (row, given) (ap (λ k. case_label ((facts s).value k)) (sym (first (one_counted read))) ∙ is))
      (stacks_are ((n, case_part made) ∷ outer) taken.1
      (st ∙ ap (λ xs. (n, made) ∷ xs) (outside as_case inner outer (ap (λ x. x.of_label) all) no_label))
      (outside as_group inner outer (ap (λ x. x.of_group) all) no_group)
      (outside as_catch inner outer (ap (λ x. x.of_catch) all) no_catch));
}

pub default_does : {s : Source} {n : ℕ} {labels new : List (ℕ × SwitchLabel)} (below : Below) (groups : List (ℕ × Group)) (catches : List (ℕ × Catch)) → new ≡ (n, l.Default) ∷ labels
    → Does s n (λ parts. default_made parts) (stacks below labels groups catches) (stacks below new groups catches)
default_does {s} {n} {labels} {new} below groups catches st = record {
  does = λ read inner outer h all settled.
      let no_label : those as_case inner ≡ [] = none_under as_case n l.Default inner outer labels new st (ap (λ x. x.of_label) all) settled.label in
      let no_group : those as_group inner ≡ [] = none_inside as_group n inner outer groups h.rising (ap (λ x. x.of_group) all) settled.group in
      let no_catch : those as_catch inner ≡ [] = none_inside as_catch n inner outer catches h.rising (ap (λ x. x.of_catch) all) settled.catch in
      let no_code : codes inner ≡ [] = none_added (codes inner) (codes outer) (sym (ap length (ap (λ x. x.of_code) all ∙ those_joined as_code inner outer)) ∙ settled.label_code (row_on_top n l.Default labels new st)) in
      comes_part (default_made inner) (case_part l.Default) n inner outer (stacks below new groups catches) (ap default_made (no_parts inner no_code no_label no_group no_catch))
      (stacks_are ((n, case_part l.Default) ∷ outer) (outside as_code inner outer (ap (λ x. x.of_code) all) no_code)
      (st ∙ ap (λ xs. (n, l.Default) ∷ xs) (outside as_case inner outer (ap (λ x. x.of_label) all) no_label))
      (outside as_group inner outer (ap (λ x. x.of_group) all) no_group)
      (outside as_catch inner outer (ap (λ x. x.of_catch) all) no_catch));
}

-- ---- groups

abbrev group_of : List SwitchLabel → List Code → Group
group_of labels stmts = roll-Group (record { labels = labels; stmts = stmts })

pub group_does : {s : Source} {n e : ℕ} {below left : Below} {labels labels_left : List (ℕ × SwitchLabel)} {groups new : List (ℕ × Group)} {cases : List SwitchLabel} {stmts : List Code} (catches : List (ℕ × Catch))
    → (n + 1 < 2 ^ 32 → e ≡ end (rows_of s) n) → TakesFront e labels labels_left cases → TakesFront e below left stmts → new ≡ (n, group_of cases stmts) ∷ groups
    → Does s n (λ parts. group_made parts) (stacks below labels groups catches) (stacks left labels_left new catches)
group_does {s} {n} {e} {below} {left} {labels} {labels_left} {groups} {new} {cases} {stmts} catches same labeled stated st = record {
  does = λ read inner outer h all settled.
      let at : e ≡ end (rows_of s) n = same (one_counted read) in
      let of_labels : Parted (end (rows_of s) n) labels (those as_case inner) (those as_case outer) = those_parted as_case inner outer h (ap (λ x. x.of_label) all) in
      let of_codes : Parted (end (rows_of s) n) below (codes inner) (codes outer) = those_parted as_code inner outer h (ap (λ x. x.of_code) all) in
      let first : TakesFront (end (rows_of s) n) labels labels_left cases = subst (λ k. TakesFront k labels labels_left cases) at labeled in
      let second : TakesFront (end (rows_of s) n) below left stmts = subst (λ k. TakesFront k below left stmts) at stated in
      let no_group : those as_group inner ≡ [] = none_under as_group n (group_of cases stmts) inner outer groups new st (ap (λ x. x.of_group) all) settled.group in
      let no_catch : those as_catch inner ≡ [] = none_inside as_catch n inner outer catches h.rising (ap (λ x. x.of_catch) all) settled.catch in
      let made : Group = group_of (items (those as_case inner)) (codes_of (codes inner)) in
      comes_part (group_made inner) (group_part made) n inner outer (stacks left labels_left new catches) (ap (λ b. cond b (part (group_part made)) strange) (only_in_group inner no_group no_catch))
      (stacks_are ((n, group_part made) ∷ outer) (left_outside of_codes second) (left_outside of_labels first)
      (st ∙ ap (λ x. (n, group_of x stmts) ∷ groups) (taken_inside of_labels first) ∙ ap (λ x. (n, group_of (items (those as_case inner)) x) ∷ groups) (taken_inside of_codes second)
      ∙ ap (λ xs. (n, made) ∷ xs) (outside as_group inner outer (ap (λ x. x.of_group) all) no_group))
      (outside as_catch inner outer (ap (λ x. x.of_catch) all) no_catch));
}

-- ---- `switch`

not_both : (row m : ℕ) → row ≤ m → m + 1 ≤ row → ⊥
not_both row m le more = omega (arith, le, more)

abbrev switch_of : Code → List Group → Part
switch_of value groups = code_part (c.Switch value groups)

-- the first row inside is that of the only code
switch_is : (inner : Parts) (row : ℕ) (value : Code) → AreRising row inner → codes inner ≡ (row, value) ∷ [] → those as_case inner ≡ [] → those as_catch inner ≡ []
    → switch_made inner ≡ part (switch_of value (items (those as_group inner)))
switch_is [] row value rising one cases catches = absurd (not_none (row, value) [] (sym one))
switch_is ((m, code_part a) ∷ ps) row value rising one cases catches =
    ap (λ b. cond b (part (switch_of a (items (those as_group ps)))) strange) (only_groups ps (ap others one) cases catches)
    ∙ ap (λ p. part (switch_of p.1 (items (those as_group ps)))) (ap (first_or (m, a)) one)
switch_is ((m, case_part a) ∷ ps) row value rising one cases catches = absurd (not_none (m, a) (those as_case ps) cases)
switch_is ((m, group_part a) ∷ ps) row value rising one cases catches =
    let behind : AreFrom (m + 1) ((row, value) ∷ []) = subst (AreFrom (m + 1)) one (those_from as_code (m + 1) ps (rising_from (m + 1) ps rising.1)) in absurd (not_both row m rising.0 behind.0)
switch_is ((m, catch_part a) ∷ ps) row value rising one cases catches = absurd (not_none (m, a) (those as_catch ps) catches)

pub switch_does : {s : Source} {n row e : ℕ} {value : Code} {below left new : Below} {groups groups_left : List (ℕ × Group)} {taken : List Group} (labels : List (ℕ × SwitchLabel)) (catches : List (ℕ × Catch))
    → (n + 1 < 2 ^ 32 → row ≡ n + 1) → (n + 1 < 2 ^ 32 → e ≡ end (rows_of s) n) → below ≡ (row, value) ∷ left → TakesFront e groups groups_left taken → new ≡ (n, c.Switch value taken) ∷ left
    → Does s n (λ parts. switch_made parts) (stacks below labels groups catches) (stacks new labels groups_left catches)
switch_does {s} {n} {row} {e} {value} {below} {left} {new} {groups} {groups_left} {taken} labels catches first same was grouped st = record {
  does = λ read inner outer h all settled.
      let of_groups : Parted (end (rows_of s) n) groups (those as_group inner) (those as_group outer) = those_parted as_group inner outer h (ap (λ x. x.of_group) all) in
      let arms : TakesFront (end (rows_of s) n) groups groups_left taken = subst (λ k. TakesFront k groups groups_left taken) (same (one_counted read)) grouped in
      let no_label : those as_case inner ≡ [] = none_inside as_case n inner outer labels h.rising (ap (λ x. x.of_label) all) settled.label in
      let no_catch : those as_catch inner ≡ [] = none_inside as_catch n inner outer catches h.rising (ap (λ x. x.of_catch) all) settled.catch in
      let one : (codes inner ≡ (row, value) ∷ []) × (left ≡ codes outer) = parts_taken ((row, value) ∷ []) (codes inner) left (codes outer) (sym was ∙ ap (λ x. x.of_code) all ∙ those_joined as_code inner outer)
      (left_count (codes outer) st settled.code) in
      let all_groups : List Group = items (those as_group inner) in
      comes_part (switch_made inner) (switch_of value all_groups) n inner outer (stacks new labels groups_left catches)
      (switch_is inner row value (subst (λ k. AreRising k inner) (sym (first (one_counted read))) h.rising) one.0 no_label no_catch)
      (stacks_are ((n, switch_of value all_groups) ∷ outer)
      (st ∙ ap (λ x. (n, c.Switch value x) ∷ left) (taken_inside of_groups arms) ∙ ap (λ xs. (n, c.Switch value all_groups) ∷ xs) one.1)
      (outside as_case inner outer (ap (λ x. x.of_label) all) no_label) (left_outside of_groups arms) (outside as_catch inner outer (ap (λ x. x.of_catch) all) no_catch));
}

-- ---- `catch`

abbrev catch_of : DeclId → DeclId → List Code → Catch
catch_of class param body = roll-Catch (record { class = record { 0 = class }; param = param; body = body })

catch_by_is : (e : Element) (f : Facts) (class : DeclId) (n : ℕ) (below : Below) → caught_class f e ≡ Some class → catch_by e f n below ≡ part (catch_part (catch_of class (f.decl (n + 1)) (codes_of below)))
catch_by_is (element.Class k) f class n below is = ap (λ d. part (catch_part (catch_of d (f.decl (n + 1)) (codes_of below)))) (same_Some (f.decl k) class is)
catch_by_is element.Boolean f class n below is = absurd (none-some class is)
catch_by_is element.Byte f class n below is = absurd (none-some class is)
catch_by_is element.Short f class n below is = absurd (none-some class is)
catch_by_is element.Char f class n below is = absurd (none-some class is)
catch_by_is element.Int f class n below is = absurd (none-some class is)
catch_by_is element.Long f class n below is = absurd (none-some class is)
catch_by_is element.Null f class n below is = absurd (none-some class is)
catch_by_is element.Void f class n below is = absurd (none-some class is)

catch_is : (o : Option RowType) (f : Facts) (class : DeclId) (n : ℕ) (below : Below) → caught f o ≡ Some class → catch_made o f n below ≡ part (catch_part (catch_of class (f.decl (n + 1)) (codes_of below)))
catch_is None f class n below is = absurd (none-some class is)
catch_is (Some a) f class n below is = catch_by_is a.element f class n below is

pub catch_does : {s : Source} {n row e : ℕ} {class param : DeclId} {body : List Code} {below left : Below} {catches new : List (ℕ × Catch)} (declares : ℕ → Option RowType) (labels : List (ℕ × SwitchLabel)) (groups : List (ℕ × Group))
    → (n + 1 < 2 ^ 32 → row ≡ n + 1) → (n + 1 < 2 ^ 32 → e ≡ end (rows_of s) n) → (IsReadAt s n → caught (facts s) (declares row) ≡ Some class) → param ≡ (facts s).decl row
    → TakesFront e below left body → new ≡ (n, catch_of class param body) ∷ catches
    → Does s n (λ parts. alone parts (λ codes. catch_made (declares (n + 1)) (facts s) n codes)) (stacks below labels groups catches) (stacks left labels groups new)
catch_does {s} {n} {row} {e} {class} {param} {body} {below} {left} {catches} {new} declares labels groups at same is named takes st = record {
  does = λ read inner outer h all settled.
      let here : row ≡ n + 1 = at (one_counted read) in
      let of_codes : Parted (end (rows_of s) n) below (codes inner) (codes outer) = those_parted as_code inner outer h (ap (λ x. x.of_code) all) in
      let first : TakesFront (end (rows_of s) n) below left body = subst (λ k. TakesFront k below left body) (same (one_counted read)) takes in
      let no_label : those as_case inner ≡ [] = none_inside as_case n inner outer labels h.rising (ap (λ x. x.of_label) all) settled.label in
      let no_group : those as_group inner ≡ [] = none_inside as_group n inner outer groups h.rising (ap (λ x. x.of_group) all) settled.group in
      let no_catch : those as_catch inner ≡ [] = none_under as_catch n (catch_of class param body) inner outer catches new st (ap (λ x. x.of_catch) all) settled.catch in
      let made : Catch = catch_of class ((facts s).decl (n + 1)) (codes_of (codes inner)) in
      comes_part (alone inner (λ codes. catch_made (declares (n + 1)) (facts s) n codes)) (catch_part made) n inner outer (stacks left labels groups new)
      (alone_is inner (λ codes. catch_made (declares (n + 1)) (facts s) n codes) (only_codes inner no_label no_group no_catch)
      ∙ catch_is (declares (n + 1)) (facts s) class n (codes inner) (ap (λ k. caught (facts s) (declares k)) (sym here) ∙ is read))
      (stacks_are ((n, catch_part made) ∷ outer) (left_outside of_codes first)
      (outside as_case inner outer (ap (λ x. x.of_label) all) no_label) (outside as_group inner outer (ap (λ x. x.of_group) all) no_group)
      (st ∙ ap (λ d. (n, catch_of class d body) ∷ catches) (named ∙ ap (λ k. (facts s).decl k) here)
      ∙ ap (λ xs. (n, catch_of class ((facts s).decl (n + 1)) xs) ∷ catches) (taken_inside of_codes first)
      ∙ ap (λ xs. (n, made) ∷ xs) (outside as_catch inner outer (ap (λ x. x.of_catch) all) no_catch)));
}

-- ---- `try`

abbrev try_of : List Code → List Catch → Option (List Code) → Part
try_of body catches last = code_part (c.Try body catches last)

-- the block of `finally` is taken, and nothing else is left
try_last : (has : Bool) (e : ℕ) (body : List Code) (catches : List Catch) (last : Option (List Code)) (mid left over rest : Below) → Parted e mid over rest → TakesLast has e mid left last → length left ≡ length rest
    → (try_by body catches has over ≡ part (try_of body catches last)) × (left ≡ rest)
try_last true e body catches (Some all) mid left over rest h took same = (ap (λ xs. part (try_of body catches (Some xs))) (sym (taken_inside h took)), left_outside h took)
try_last true e body catches None mid left over rest h took same = absurd took
try_last false e body catches (Some all) mid left over rest h took same = absurd took
try_last false e body catches None mid left over rest h took same =
    let none : over ≡ [] = none_added over rest (sym (ap length (took ∙ h.is)) ∙ same) in (ap (try_by body catches false) none, took ∙ h.is ∙ ap (λ xs. xs ++ rest) none)

-- what is left behind the first block
left_parted : (stop e : ℕ) (old mid parts rest : Below) (all : List Code) → stop ≤ e → Parted e old parts rest → TakesFront stop old mid all → Parted e mid (behind stop parts) rest
left_parted stop e old mid parts rest all le h takes = record {
  is = takes.left ∙ ap (behind stop) h.is ∙ behind_within stop e parts rest le h.after;
  inside = behind_before stop e parts h.inside;
  after = h.after;
}

pub try_does : {s : Source} {n e second : ℕ} {body : List Code} {taken : List Catch} (last : Option (List Code)) {below mid left new : Below} {catches catches_left : List (ℕ × Catch)} (has_finally : Bool)
    (labels : List (ℕ × SwitchLabel)) (groups : List (ℕ × Group)) → second ≤ e → (n + 1 < 2 ^ 32 → e ≡ end (rows_of s) n) → (n + 2 < 2 ^ 32 → second ≡ end (rows_of s) (n + 1))
    → TakesFront second below mid body → TakesFront e catches catches_left taken → TakesLast has_finally e mid left last → new ≡ (n, c.Try body taken last) ∷ left
    → Does s n (λ parts. try_made (facts s) n has_finally parts) (stacks below labels groups catches) (stacks new labels groups catches_left)
try_does {s} {n} {e} {second} {body} {taken} last {below} {mid} {left} {new} {catches} {catches_left} has_finally labels groups within same behind_first blocked caught_all lasts st = record {
  does = λ read inner outer h all settled.
      let stop : ℕ = end (rows_of s) n in let first : ℕ = end (rows_of s) (n + 1) in
      let le : first ≤ stop = subst (λ k. k ≤ stop) (behind_first (two_counted read)) (subst (λ k. second ≤ k) (same (one_counted read)) within) in
      let of_codes : Parted (end (rows_of s) n) below (codes inner) (codes outer) = those_parted as_code inner outer h (ap (λ x. x.of_code) all) in
      let of_catches : Parted (end (rows_of s) n) catches (those as_catch inner) (those as_catch outer) = those_parted as_catch inner outer h (ap (λ x. x.of_catch) all) in
      let block : TakesFront first below mid body = subst (λ k. TakesFront k below mid body) (behind_first (two_counted read)) blocked in
      let arms : TakesFront stop catches catches_left taken = subst (λ k. TakesFront k catches catches_left taken) (same (one_counted read)) caught_all in
      let end_block : TakesLast has_finally stop mid left last = subst (λ k. TakesLast has_finally k mid left last) (same (one_counted read)) lasts in
      let no_label : those as_case inner ≡ [] = none_inside as_case n inner outer labels h.rising (ap (λ x. x.of_label) all) settled.label in
      let no_group : those as_group inner ≡ [] = none_inside as_group n inner outer groups h.rising (ap (λ x. x.of_group) all) settled.group in
      let own : List Code = front first (codes inner) in let all_caught : List Catch = items (those as_catch inner) in
      let over : (try_by own all_caught has_finally (behind first (codes inner)) ≡ part (try_of own all_caught last)) × (left ≡ codes outer) =
      try_last has_finally stop own all_caught last mid left (behind first (codes inner)) (codes outer) (left_parted first stop below mid (codes inner) (codes outer) body le of_codes block) end_block
      (left_count (codes outer) st settled.code) in
      comes_part (try_made (facts s) n has_finally inner) (try_of own all_caught last) n inner outer (stacks new labels groups catches_left)
      (ap (λ b. cond b (try_by own all_caught has_finally (behind first (codes inner))) strange) (only_in_try inner no_label no_group) ∙ over.0)
      (stacks_are ((n, try_of own all_caught last) ∷ outer)
      (st ∙ ap (λ xs. (n, c.Try xs taken last) ∷ left) (block.taken ∙ ap (front first) of_codes.is ∙ front_within first stop (codes inner) (codes outer) le of_codes.after)
      ∙ ap (λ xs. (n, c.Try own xs last) ∷ left) (taken_inside of_catches arms)
      ∙ ap (λ xs. (n, c.Try own all_caught last) ∷ xs) over.1)
      (outside as_case inner outer (ap (λ x. x.of_label) all) no_label) (outside as_group inner outer (ap (λ x. x.of_group) all) no_group) (left_outside of_catches arms));
}
