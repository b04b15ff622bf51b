-- Where a method goes, units one by one, and the answers.
use Rattle.std.proofs.Common.{◌≡◌, refl, sym, ◌∙◌, ap, subst, arith, ℕ, ◌+◌, ◌<◌, ◌≤◌, Bool, true, false, cond, List, length, Option, Some, None, Result, Ok, Err, nat_lt, Decides, add-one}
use Rattle.std.proofs.lemmas.Bool.{false≢true}
use Rattle.std.proofs.lemmas.Bool.Decides.{Decides-ltb}
use Rattle.std.specs.Prelude.{IfOk, IfErr, OnOk}
use Rattle.jr_base.specs.declared.token.Span.{Span}
use Rattle.jr_tree.specs.Rows.{Rows}
use Rattle.jr_defs.specs.Referents.{Table}
use Rattle.jr_defs.specs.Supertypes.{Superclass}
use Rattle.jr_plain.specs.Search.{Finds}
use Rattle.jr_supers.specs.Supers.{AreSupersOf}
use Rattle.jr_marks.specs.declared.marks.Marks.{Marks}
use Rattle.jr_marks.specs.Places.{IsOrdered}
use Rattle.jr_edits.specs.Place.{EditList}
use Rattle.jr_text.specs.Spans.{IsExtent, unit_bytes}
use Rattle.jr_change.specs.declared.change.Change.{Change}
use Rattle.jr_change.specs.declared.change.Raised.{Raised}
use Rattle.jr_change.specs.declared.project.Project.{Project}
use Rattle.jr_change.specs.declared.reason.ChangeFault.{ChangeFault}
use Rattle.jr_change.specs.declared.reason.ChangeFault.TheVariants as fault
use Rattle.jr_change.specs.declared.reason.Reason.{Reason}
use Rattle.jr_change.specs.declared.reason.Reason.TheVariants as reason
use Rattle.jr_draft.specs.Asking.{rows_of, asked}
use Rattle.jr_draft.specs.Drafting.{Drafted, kept, no_edits, unit_row}
use Rattle.jr_pullup.specs.declared.pulled.Pulled.{Pulled}
use Rattle.jr_pullup.specs.Pulling.{class_of_method, into_superclass, into_body, takes, body_of, IsPulled, IsPulledFor, IsPulledUp, IsAskedFor, IsPullUpAnswer, IsFinishedWith, IsRaised, IsWithin, edited, is_edited, raised_below, raised_by, with_edited, with_one, with_rows, with_text, without_text}
use Rattle.jr_pullup.proofs.Finding.{class_within, found_within}

-- ---- what goes where

pub other_kind_so : (old : Project) (d : ℕ) → None ≡ class_of_method (rows_of old) d → IsPulled old d (Err reason.WrongKind)
other_kind_so old d none = IsPulled.other_kind (sym none)

pub upwards_so : (old : Project) (d c : ℕ) (above : Option ℕ) (to : Result Pulled Reason) → IsOrdered old.marks → Some c ≡ class_of_method (rows_of old) d
    → ((p : Rows) (t : Table) → AreSupersOf p t old.view.sight.world.supers.now → Finds above (Superclass p t c)) → (IsOrdered old.marks → to ≡ into_superclass old.marks d c above) → IsPulled old d to
upwards_so old d c above to ordered some told is = IsPulled.upwards (sym some) (λ t. told (rows_of old) t) (is ordered)

-- what goes is written
into_within : (m : Marks) (d c : ℕ) (above : Option ℕ) → d < length m.rows.now → IfOk (into_superclass m d c above) (λ pulled. IsWithin m.rows.now pulled)
into_within m d c None lt = tt
into_within m d c (Some s) lt = by (takes m c s) (body_of m.rows.now s) refl
  where
    by : (b : Bool) (body : Option ℕ) → body_of m.rows.now s ≡ body → IfOk (cond b (into_body d c s body) (Err reason.BadSuperclass)) (λ pulled. IsWithin m.rows.now pulled)
    by false body is = tt
    by true None is = tt
    by true (Some b) is = record { method = lt; body = found_within m.rows.now s b is }

within_by : (old : Project) (d : ℕ) (to : Result Pulled Reason) → IsPulled old d to → IfOk to (λ pulled. IsWithin (rows_of old) pulled)
within_by old d to (IsPulled.other_kind none) = tt
within_by old d to (IsPulled.upwards {c = c} {above = above} some super is) =
    subst (λ to. IfOk to (λ pulled. IsWithin (rows_of old) pulled)) (sym is) (into_within old.marks d c above (class_within (rows_of old) d c some))

ok_not_err : {A B : Type 0} (x : A) (y : B) → Ok x ≡ Err y → ⊥
ok_not_err x y e = cc

pub pulled_within : (old : Project) (found : Option ℕ) (pulled : Pulled) → IsPulledFor old found (Ok pulled) → IsWithin (rows_of old) pulled
pulled_within old None pulled h = absurd (ok_not_err pulled reason.WrongKind h)
pulled_within old (Some d) pulled h = within_by old d (Ok pulled) h

-- ---- texts

pub edited_by : (m : Marks) (pulled : Pulled) (span : Span) (unit row : ℕ) (none put taken : EditList) → row ≡ unit_row m unit → none ≡ no_edits (length (unit_bytes m row)) → put ≡ with_text m pulled span unit none
    → taken ≡ without_text m pulled span unit put → taken ≡ edited m pulled span unit
edited_by m pulled span unit row none put taken at start comes goes =
    goes ∙ ap (without_text m pulled span unit) (comes ∙ ap (with_text m pulled span unit) (start ∙ ap (λ row. no_edits (length (unit_bytes m row))) at))

-- ---- units

-- a unit that is edited
edited_is : (m : Marks) (pulled : Pulled) (span : Span) (unit : ℕ) (d : Drafted) → is_edited m pulled unit ≡ true → with_rows m pulled unit (with_edited m pulled span unit d) ≡ with_one m pulled span unit d
edited_is m pulled span unit d h = by (is_edited m pulled unit) h
  where
    by : (b : Bool) → b ≡ true → with_rows m pulled unit (with_edited m pulled span unit d) ≡ cond b (with_rows m pulled unit (with_edited m pulled span unit d)) (kept m unit d)
    by true e = refl
    by false e = absurd (false≢true e)

pub one_edited : {A B : Type 0} (m : Marks) (pulled : Pulled) (span : Span) (unit : ℕ) (d new : Drafted) (answer : Result A B) (b : Bool) → (IsOrdered m → b ≡ is_edited m pulled unit) → b ≡ true
    → OnOk answer (IsOrdered m → IsWithin m.rows.now pulled → new ≡ with_rows m pulled unit (with_edited m pulled span unit d)) → OnOk answer (IsOrdered m → IsWithin m.rows.now pulled → new ≡ with_one m pulled span unit d)
one_edited m pulled span unit d new (Ok x) b tells is made = λ ordered within. made ordered within ∙ edited_is m pulled span unit d (sym (tells ordered) ∙ is)
one_edited m pulled span unit d new (Err why) b tells is made = made

-- one unit more
pub raised_more : (m : Marks) (pulled : Pulled) (span : Span) (unit : ℕ) (before more : Drafted) → 2 ≤ unit → before ≡ raised_below m pulled span unit → more ≡ with_one m pulled span unit before
    → more ≡ raised_below m pulled span (unit + 1)
raised_more m pulled span unit before more behind h made = rw add-one (made ∙ ap (with_one m pulled span unit) h ∙ by (nat_lt unit 2) (Decides-ltb unit 2))
  where
    by : (b : Bool) → Decides b (unit < 2) → with_one m pulled span unit (raised_below m pulled span unit) ≡ cond b (raised_below m pulled span unit) (with_one m pulled span unit (raised_below m pulled span unit))
    by true d = let lt = d.0 refl in absurd (omega arith)
    by false d = refl

-- all units
pub raised_all : (m : Marks) (pulled : Pulled) (span : Span) (unit count : ℕ) (draft : Drafted) → unit ≡ count → draft ≡ raised_below m pulled span unit → draft ≡ raised_below m pulled span count
raised_all m pulled span unit count draft same h = h ∙ ap (raised_below m pulled span) same

-- the change, from its parts
pub raised_as : (m : Marks) (pulled : Pulled) (span : Span) (draft : Drafted) (raised : Raised) (change : Change) → IsExtent m pulled.method span → draft ≡ raised_below m pulled span (length m.units.now)
    → raised ≡ raised_by m.rows.now pulled → IsFinishedWith draft raised change → IsRaised m pulled change
raised_as m pulled span draft raised change bytes drafted by finished = record {
  span = span;
  bytes = bytes;
  finished = subst (λ raised. IsFinishedWith (raised_below m pulled span (length m.units.now)) raised change) by (subst (λ draft. IsFinishedWith draft raised change) drafted finished);
}

-- ---- the answers to a request

pub refused_so : (old : Project) (file : List ℕ) (at : ℕ) (why : ChangeFault) → Err why ≡ asked old file at → IsPullUpAnswer old file at (Err why)
refused_so old file at why h = IsPullUpAnswer.refused (sym h)

pub answered_so : (old : Project) (file : List ℕ) (at : ℕ) (found : Option ℕ) (answer : Result Change ChangeFault) → Ok found ≡ asked old file at → IsAskedFor old found answer → IsPullUpAnswer old file at answer
answered_so old file at found answer h made = IsPullUpAnswer.answered (sym h) made

pub stays_so : (old : Project) (found : Option ℕ) (why : Reason) → IsPulledFor old found (Err why) → IsAskedFor old found (Err (fault.Bad why))
stays_so old found why stays = IsAskedFor.stays stays

pulled_up : (m : Marks) (pulled : Pulled) (answer : Result Change ChangeFault) → IfOk answer (λ change. IsRaised m pulled change) → IfErr answer (λ why. why ≡ fault.OutOfMemory) → IsPulledUp m pulled answer
pulled_up m pulled (Ok change) made failed = IsPulledUp.raised made
pulled_up m pulled (Err why) made failed = subst (λ why. IsPulledUp m pulled (Err why)) (sym failed) IsPulledUp.memory

bare : (m : Marks) (pulled : Pulled) (answer : Result Change ChangeFault) → IsOrdered m → IsWithin m.rows.now pulled → IfOk answer (λ change. IsOrdered m → IsWithin m.rows.now pulled → IsRaised m pulled change)
    → IfOk answer (λ change. IsRaised m pulled change)
bare m pulled (Ok change) ordered within made = made ordered within
bare m pulled (Err why) ordered within made = tt

pub goes_so : (old : Project) (found : Option ℕ) (pulled : Pulled) (answer : Result Change ChangeFault) → IsOrdered old.marks → IsPulledFor old found (Ok pulled)
    → IfOk answer (λ change. IsOrdered old.marks → IsWithin (rows_of old) pulled → IsRaised old.marks pulled change) → IfErr answer (λ why. why ≡ fault.OutOfMemory) → IsAskedFor old found answer
goes_so old found pulled answer ordered is made failed = IsAskedFor.goes is (pulled_up old.marks pulled answer (bare old.marks pulled answer ordered (pulled_within old found pulled is) made) failed)
