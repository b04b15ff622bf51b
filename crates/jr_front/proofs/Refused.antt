-- The first of the faults that are found is the first cause of its kind.
use Rattle.std.proofs.Common.{◌≡◌, refl, sym, ◌∙◌, ap, ap₂, subst, inl, inr, arith, ℕ, Bool, true, false, List, [], length, nat_le, Contains, Result, Ok, Err, IfErr}
use Rattle.std.proofs.lemmas.Bool.{false≢true, or_right, and_parts, leb-true}
use Rattle.jr_base.specs.declared.token.Place.{Place}
use Rattle.jr_tree.specs.Local.{IsLocal}
use Rattle.jr_tree.specs.Rows.{Rows}
use Rattle.jr_defs.specs.declared.referent.Referent.TheVariants.{Unbound}
use Rattle.jr_defs.specs.Referents.{Table}
use Rattle.jr_defs.specs.Rules.{Breaks}
use Rattle.jr_plain.specs.Headed.{IsHeaded}
use Rattle.jr_plain.specs.Search.{has, all_such}
use Rattle.jr_rule.specs.declared.Fault.{Fault}
use Rattle.jr_rule.specs.declared.Rule.{Rule}
use Rattle.jr_rule.specs.declared.Rule.TheVariants as rule
use Rattle.jr_rule.specs.Numbers.{number_of}
use Rattle.jr_rule.specs.Faults.{rows_of, AreFaultsOf}
use Rattle.jr_marks.specs.Places.{place_of_fault, place_of_name}
use Rattle.jr_marks.specs.declared.marks.Marks.{Marks}
use Rattle.jr_headed.specs.Founded.{IsProgram}
use Rattle.jr_headed.proofs.Programs.{headed_programs}
use Rattle.jr_name_rules.specs.Computed.{types}
use Rattle.jr_name_rules.proofs.AllRules.{others_tell}
use Rattle.jr_name_rules.proofs.Bounded.{broken_in_local}
use Rattle.jr_member_faults.specs.Faults.{has_member_type_clash}
use Rattle.jr_member_faults.specs.Tops.{has_top_type_clash}
use Rattle.jr_member_faults.proofs.Told.{types_at}
use Rattle.jr_front.specs.Broken.{IsBetter, IsFirstBroken}
use Rattle.jr_front.specs.Compiling.{BreaksRule}
use Rattle.jr_front.specs.Refusing.{IsFirstClash, IsFirstBreak}
use Rattle.jr_front.specs.Tested.{is_between, AreTakenOver, AreClashes, HasNoTopFault}
use Rattle.jr_front.specs.Unbound.{IsBefore}
use Rattle.jr_front.specs.declared.fault.FrontFault.{FrontFault}
use Rattle.jr_front.proofs.Listed.{HasFault, listed, passes, found}
use Rattle.jr_front.proofs.Numbers.{same_rule}

abbrev fault_at : Rule → ℕ → Fault
fault_at rule row = record { row = row; rule = rule }

same_fault : (one other : Fault) → one.rule ≡ other.rule → one.row ≡ other.row → one ≡ other
same_fault one other rules rows = ap₂ fault_at rules rows

-- ---- names of types

pub top_breaks : (p : Rows) → IsHeaded p → (n : ℕ) → has_top_type_clash p n ≡ true → (t : Table) → Breaks p t 2 n
top_breaks p headed n clash t = (others_tell p t (types p t) 2 n headed (λ e. absurd (omega arith))).0 (types_at p t n ∙ or_right (has_member_type_clash p n) (has_top_type_clash p n) clash)

-- each fault of the list is one of rule 2
number_is : (first : ℕ) (one : Rule) → is_between first first one ≡ true → number_of one ≡ first
number_is first one e = let both = and_parts (nat_le first (number_of one)) (nat_le (number_of one) first) e in omega (arith, leb-true first (number_of one) both.0, leb-true (number_of one) first both.1)

clash_rule : (p : Rows) (faults : List Fault) (fault : Fault) → AreClashes p faults → Contains faults fault → fault.rule ≡ rule.TypeNames
clash_rule p faults fault clashes inside = by (is_between 2 2 fault.rule) refl
  where
    by : (b : Bool) → is_between 2 2 fault.rule ≡ b → fault.rule ≡ rule.TypeNames
    by true e = same_rule fault.rule rule.TypeNames (number_is 2 fault.rule e)
    by false e = absurd (false≢true (ap (λ rows. has rows fault.row) (sym (clashes.others.others fault.rule e).are) ∙ listed fault.rule faults fault inside refl))

shown_at_name : (m : Marks) (fault : Fault) → fault.rule ≡ rule.TypeNames → place_of_fault m fault ≡ place_of_name m fault.row
shown_at_name m fault e = ap (λ r. place_of_fault m (fault_at r fault.row)) e

pub first_clash : (m : Marks) (faults : List Fault) (best : Rule × Place) → IsLocal m.rows.now → IsHeaded m.rows.now → AreClashes m.rows.now faults → IsFirstBroken m faults best → IsFirstClash m best.1
first_clash m faults best local headed clashes h =
    let p = m.rows.now in
    let is_type = clash_rule p faults h.fault clashes h.member in
    let clash = passes rule.TypeNames (length p) (has_top_type_clash p) clashes.clashes h.fault h.member (ap number_of is_type) in
    record {
      row = h.fault.row;
      clash = record { clash = clash; breaks = top_breaks p headed h.fault.row clash };
      at = ap (λ (b : Rule × Place). b.1) h.told ∙ shown_at_name m h.fault is_type;
      first = λ other is before.
          let of = found rule.TypeNames (length p) (has_top_type_clash p) clashes.clashes other (broken_in_local p (λ n. Unbound) 2 other local (is.breaks (λ n. Unbound))) is.clash in
          let place_is = shown_at_name m of.fault (clash_rule p faults of.fault clashes of.member) ∙ ap (place_of_name m) of.row in
          h.first of.fault of.member (inl (subst (λ place. IsBefore place best.1) (sym place_is) before));
    }

-- where no faults are found there is no such type
pub no_clash : (p : Rows) (faults : List Fault) → AreClashes p faults → faults ≡ [] → HasNoTopFault p
no_clash p faults clashes none = sym clashes.clashes.are ∙ ap (rows_of rule.TypeNames) none

-- those that were found, of which those of rule 2 were taken over
pub clashes_taken : (p : Rows) (found faults : List Fault) → AreFaultsOf rule.TypeNames (all_such (length p) (has_top_type_clash p)) [] found → AreTakenOver 2 2 found [] faults → AreClashes p faults
clashes_taken p found faults of taken = record { others = taken.others; clashes = record { are = (taken.these rule.TypeNames refl).are ∙ of.are } }

-- the same, as the steps of the code give it
pub clashes_from : (p : Rows) (start found read none faults : List Fault) → start ≡ [] → read ≡ found → none ≡ [] → AreFaultsOf rule.TypeNames (all_such (length p) (has_top_type_clash p)) start found → AreTakenOver 2 2 read none faults → AreClashes p faults
clashes_from p start found read none faults empty same blank of taken = clashes_taken p found faults
    (subst (λ (l : List Fault). AreFaultsOf rule.TypeNames (all_such (length p) (has_top_type_clash p)) l found) empty of)
    (subst (λ (l : List Fault). AreTakenOver 2 2 l [] faults) same (subst (λ (l : List Fault). AreTakenOver 2 2 read l faults) blank taken))

-- the rows of a program are headed
pub program_is_headed : (p : Rows) → IsProgram p → IsHeaded p
program_is_headed p program = subst IsHeaded (sym program.rows_are) (headed_programs program.units program.shaped).0

-- ---- rules

pub first_break : (m : Marks) (t : Table) (faults : List Fault) (best : Rule × Place) → ((fault : Fault) → Contains faults fault → BreaksRule m m.rows.now t (number_of fault.rule) fault.row)
    → ((k n : ℕ) → BreaksRule m m.rows.now t k n → HasFault faults k n) → IsFirstBroken m faults best → IsFirstBreak m t best.0 best.1
first_break m t faults best right all h =
    let rule_is : best.0 ≡ h.fault.rule = ap (λ (b : Rule × Place). b.0) h.told in
    record {
      row = h.fault.row;
      at = ap (λ (b : Rule × Place). b.1) h.told ∙ ap (λ r. place_of_fault m (fault_at r h.fault.row)) (sym rule_is);
      breaks = subst (λ r. BreaksRule m m.rows.now t (number_of r) h.fault.row) (sym rule_is) (right h.fault h.member);
      first = λ other breaks better.
          let of = all (number_of other.rule) other.row breaks in
          let same = same_fault of.fault other (same_rule of.fault.rule other.rule of.number) of.row in
          h.first of.fault of.member (subst (λ (f : Fault). IsBetter (f.rule, place_of_fault m f) best) (sym same) better);
    }

-- ---- results

pub err_more : {A : Type 0} (P Q : FrontFault → Type 0) (result : Result A FrontFault) → ((why : FrontFault) → P why → Q why) → IfErr result P → IfErr result Q
err_more P Q (Ok x) more h = tt
err_more P Q (Err why) more h = more why h

pub err_is : {A : Type 0} (P : FrontFault → Type 0) (result : Result A FrontFault) (why : FrontFault) → result ≡ Err why → P why → IfErr result P
err_is P result why e h = subst (λ r. IfErr r P) (sym e) h
