-- Bytes are a journal of one version and one list of entries at most, and reading finds it.
use Rattle.std.proofs.Common.{◌≡◌, ℕ, ◌^◌, ◌<◌, ◌≤◌, List, [], ◌∷◌, ◌++◌, length, Some, None, refl, sym, ap, subst, ◌∙◌, arith}
use Rattle.std.specs.Prelude.{Option, IsSome}
use Rattle.std.specs.List.{AllByRecursion}
use Rattle.std.proofs.lemmas.List.{length-append}
use Rattle.std.proofs.lemmas.Option.{none-some}
use Rattle.jr_commit.specs.SidesAt.{SideAt}
use Rattle.jr_commit.specs.Entries.{Known, PlainEntry}
use Rattle.jr_commit.specs.declared.entry.Version.{Version}
use Rattle.jr_commit.specs.declared.entry.Version.TheVariants.{One, Two}
use Rattle.jr_commit.specs.Journal.{number, string, side_text, entry_text, entries_text, magic, ending, spelling, most_bytes, version_number, old_sides, IsShaped, IsIn, IsJournal, PutsBack}
use Rattle.jr_commit.specs.Reading.{journal_at}
use Rattle.jr_commit.proofs.Fields.{some_is}
use Rattle.jr_commit.proofs.Texts.{KnownFits, EntryFits, entries_cons, journal_again}

string_short : (bytes : List ℕ) → length (string bytes) < 2 ^ 32 → length bytes < 2 ^ 32
string_short bytes short = omega (arith, length-append (number (length bytes)) bytes)

side_fits : (k : Known) → length (side_text k) < 2 ^ 32 → KnownFits k
side_fits None short = tt
side_fits (Some None) short = tt
side_fits (Some (Some bytes)) short = string_short bytes (omega arith)

-- an entry has a text, whose parts fit where it is short
pub entry_fits : (v : Version) (e : PlainEntry) → IsShaped v e → length (entry_text v e) < 2 ^ 32 → EntryFits e × (1 ≤ length (entry_text v e))
entry_fits One (path, None, new) shape short = let old : IsSome {T = Option (List ℕ)} None = shape.old in absurd cc
entry_fits One (path, Some None, new) shape short =
    (record { path = string_short path (omega arith); old = tt; new = subst KnownFits (sym shape.new) tt }, omega arith)
entry_fits One (path, Some (Some bytes), new) shape short =
    let parts = length-append (string path) (string bytes) in
    (record { path = string_short path (omega (arith, parts)); old = string_short bytes (omega (arith, parts)); new = subst KnownFits (sym shape.new) tt }, omega arith)
entry_fits Two e shape short =
    let whole = length-append (string e.0) (side_text e.1 ++ side_text e.2) in
    let sides = length-append (side_text e.1) (side_text e.2) in
    let head = length-append (number (length e.0)) e.0 in
    (record { path = string_short e.0 (omega (arith, whole)); old = side_fits e.1 (omega (arith, whole, sides)); new = side_fits e.2 (omega (arith, whole, sides)) }, omega (arith, whole, head))

pub entries_fit : (v : Version) (es : List PlainEntry) → AllByRecursion (IsShaped v) es → length (entries_text v es) < 2 ^ 32 → AllByRecursion EntryFits es × (length es ≤ length (entries_text v es))
entries_fit v [] shaped short = (tt, omega arith)
entries_fit v (e ∷ es) shaped short =
    let long = ap length (entries_cons v e es) ∙ length-append (entry_text v e) (entries_text v es) in
    let first = entry_fits v e shaped.0 (omega (arith, long)) in
    let others = entries_fit v es shaped.1 (omega (arith, long)) in
    ((first.0, others.0), omega (arith, long, first.1, others.1))

pub most_small : (v : Version) → most_bytes v < 2 ^ 32
most_small One = omega arith
most_small Two = omega arith

pub found_again : (v : Version) (bytes : List ℕ) (es : List PlainEntry) → IsIn v bytes es → journal_at bytes ≡ Some (v, es)
found_again v bytes es is =
    let total : length (spelling v es) < 2 ^ 32 = omega (arith, ap length is.spelled, is.short, most_small v) in
    let a = length-append (magic v) (number (length es) ++ (entries_text v es ++ ending)) in
    let b = length-append (number (length es)) (entries_text v es ++ ending) in
    let c = length-append (entries_text v es) ending in
    let fits = entries_fit v es is.shaped (omega (arith, a, b, c)) in
    ap journal_at is.spelled ∙ journal_again v es is.shaped fits.0 (omega (arith, a, b, c, fits.1))

pub only_found : (bytes : List ℕ) (x : Version × List PlainEntry) (n : ℕ) (es : List PlainEntry) → journal_at bytes ≡ Some x → IsJournal n bytes es → (n ≡ version_number x.0) × (es ≡ x.1)
only_found bytes x n es read (v, is_n, is) =
    let made : Version × List PlainEntry = (v, es) in
    let same : made ≡ x = some_is made x (sym (found_again v bytes es is) ∙ read) in
    (is_n ∙ ap (λ (y : Version × List PlainEntry). version_number y.0) same, ap (λ (y : Version × List PlainEntry). y.1) same)

pub none_found : (bytes : List ℕ) → journal_at bytes ≡ None → (n : ℕ) (es : List PlainEntry) → IsJournal n bytes es → ⊥
none_found bytes read n es (v, is_n, is) = none-some (v, es) (sym read ∙ found_again v bytes es is)

-- what was read, where the bytes are a journal at all
pub is_read : (bytes : List ℕ) (x : Version × List PlainEntry) (n : ℕ) (es : List PlainEntry) → journal_at bytes ≡ Some x → IsJournal n bytes es → IsIn x.0 bytes x.1
is_read bytes x n es read (v, is_n, is) =
    let made : Version × List PlainEntry = (v, es) in
    let same : made ≡ x = some_is made x (sym (found_again v bytes es is) ∙ read) in
    subst (λ (y : Version × List PlainEntry). IsIn y.0 bytes y.1) same is

-- bytes put back one list of old sides
pub one_journal : (bytes : List ℕ) (a b : List SideAt) → PutsBack bytes a → PutsBack bytes b → a ≡ b
one_journal bytes a b first second =
    let same = only_found bytes (first.version, first.entries) (version_number second.version) second.entries (found_again first.version bytes first.entries first.journal) (second.version, refl, second.journal) in
    first.sides ∙ ap old_sides (sym same.1) ∙ sym second.sides

-- the journal that was found puts back its old sides, and no others
pub puts_back : (bytes : List ℕ) (n : ℕ) (es : List PlainEntry) (olds : List SideAt) → IsJournal n bytes es → olds ≡ old_sides es → PutsBack bytes olds
puts_back bytes n es olds (v, is_n, is) sides = record { version = v; entries = es; journal = is; sides = sides }

pub puts_back_only : (bytes : List ℕ) (n : ℕ) (es : List PlainEntry) (olds : List SideAt) → ((m : ℕ) (others : List PlainEntry) → IsJournal m bytes others → (m ≡ n) × (others ≡ es)) → olds ≡ old_sides es
    → (others : List SideAt) → PutsBack bytes others → others ≡ olds
puts_back_only bytes n es olds only sides others is = is.sides ∙ ap old_sides (only (version_number is.version) is.entries (is.version, refl, is.journal)).1 ∙ sym sides

pub puts_back_none : (bytes : List ℕ) → ((n : ℕ) (es : List PlainEntry) → IsJournal n bytes es → ⊥) → (olds : List SideAt) → PutsBack bytes olds → ⊥
puts_back_none bytes none olds is = none (version_number is.version) is.entries (is.version, refl, is.journal)
