-- Lists of items as long as one begins: what is written is read, and what is read is written.
use Rattle.std.proofs.Common.{◌≡◌, ℕ, suc, ◌≤◌, Bool, true, false, List, [], ◌∷◌, length, Option, None, Ok, Err, refl, ap, ◌∙◌, arith}
use Rattle.std.specs.List.{AllByRecursion}
use Rattle.jr_base.specs.declared.kind.Kind.{Kind}
use Rattle.jr_tree.specs.Depth.{deepest}
use Rattle.jr_parse_laws.specs.Parsers.{first, Parser, many}
use Rattle.jr_parse_laws.proofs.Lists.{Shortens, many_over, many_turn}
use Rattle.jr_parse_laws.specs.declared.fault.Fault.{Fault}
use Rattle.jr_parse_expr.proofs.Growths as g
use Rattle.jr_parse_expr.proofs.Repeats.{AreAll, write_each, many_sound}
use Rattle.jr_parse_defs.specs.Writing.{write_many}

-- ---- a property with a depth, of each

pub together : {A : Type 0} (P : A → Type 0) (depth : A → ℕ) (room : ℕ) (all : List A) → AllByRecursion P all → deepest depth all ≤ room → AllByRecursion (λ a. P a × (depth a ≤ room)) all
together P depth room [] h low = tt
together P depth room (a ∷ all) h low = ((h.0, omega arith), together P depth room all h.1 (omega arith))

pub asunder : {A : Type 0} (P : A → Type 0) (depth : A → ℕ) (room : ℕ) (all : List A) → AllByRecursion (λ a. P a × (depth a ≤ room)) all → AllByRecursion P all × (deepest depth all ≤ room)
asunder P depth room [] h = (tt, omega arith)
asunder P depth room (a ∷ all) h =
    let more = asunder P depth room all h.1 in
    let low : depth a ≤ room = h.0.1 in
    let others : deepest depth all ≤ room = more.1 in
    ((h.0.0, more.0), omega arith)

-- ---- a list

-- an item that was read
abbrev pub Sound : {A : Type 0} → (A → Type 0) → (A → List Kind → List Kind) → Parser A → Type 0
Sound {A} Is write item = (ts : List Kind) (r : A × List Kind) → item ts ≡ Ok r → Is r.0 × (ts ≡ write r.0 r.1)

pub shortens_by : {A : Type 0} (Is : A → Type 0) (write : A → List Kind → List Kind) (item : Parser A) → Sound Is write item → ((a : A) (rest : List Kind) → Is a → suc (length rest) ≤ length (write a rest)) → Shortens item
shortens_by Is write item sound longer ts a rest h =
    let found = sound ts (a, rest) h in
    let l = longer a rest found.0 in
    let same = ap (λ (ts : List Kind). length ts) found.1 in
    omega arith

module _ {A : Type 0} (starts : Option Kind → Bool) (item : Parser A) (silent : starts None ≡ false) (Is : A → Type 0) (write : A → List Kind → List Kind) (sound : Sound Is write item)
    (longer : (a : A) (rest : List Kind) → Is a → suc (length rest) ≤ length (write a rest)) where
  abbrev pub shorter : Shortens item
  shorter = shortens_by Is write item sound longer

  pub one_more : (a : A) (ts rest : List Kind) (all : List A) (end : List Kind) → starts (first ts) ≡ true → item ts ≡ Ok (a, rest) → many starts item rest ≡ Ok (all, end) → many starts item ts ≡ Ok (a ∷ all, end)
  one_more a ts rest all end begins one others = many_turn starts item silent shorter ts begins ∙ rw (one, others) refl

  pub no_more : (ts : List Kind) → starts (first ts) ≡ false → many starts item ts ≡ Ok ([], ts)
  no_more ts h = many_over starts item ts h

  -- what may follow an item, as another item may
  module _ (Before : Option Kind → Type 0) (meets : (o : Option Kind) → starts o ≡ true → Before o) (begins : (a : A) (rest : List Kind) → Is a → starts (first (write a rest)) ≡ true)
      (reads : (a : A) (rest : List Kind) → Is a → Before (first rest) → item (write a rest) ≡ Ok (a, rest)) where
    before_rest : (all : List A) (rest : List Kind) → AllByRecursion Is all → Before (first rest) → Before (first (write_many write all rest))
    before_rest [] rest is h = h
    before_rest (a ∷ all) rest is h = meets (first (write a (write_many write all rest))) (begins a (write_many write all rest) is.0)

    pub list_read : (all : List A) (rest : List Kind) → AllByRecursion Is all → starts (first rest) ≡ false → Before (first rest) → many starts item (write_many write all rest) ≡ Ok (all, rest)
    list_read [] rest is over h = no_more rest over
    list_read (a ∷ all) rest is over h =
        let ts = write_many write all rest in
        one_more a (write a ts) ts all rest (begins a ts is.0) (reads a ts is.0 (before_rest all rest is.1 h)) (list_read all rest is.1 over h)

  pub record Listed (ts : List Kind) (r : List A × List Kind) : Type 0 where
    pub are : AllByRecursion Is r.0
    pub written : ts ≡ write_many write r.0 r.1
    pub ended : starts (first r.1) ≡ false

  each_is : (all : List A) → AreAll starts item silent shorter Is write sound all → AllByRecursion Is all
  each_is [] h = tt
  each_is (a ∷ all) h = (h.0, each_is all h.1)

  each_written : (all : List A) (rest : List Kind) → write_each starts item silent shorter Is write sound all rest ≡ write_many write all rest
  each_written [] rest = refl
  each_written (a ∷ all) rest = ap (write a) (each_written all rest)

  pub list_sound : (ts : List Kind) (r : List A × List Kind) → many starts item ts ≡ Ok r → Listed ts r
  list_sound ts r h =
      let found = many_sound starts item silent shorter Is write sound ts r h in
      record { are = each_is r.0 found.are; written = found.written ∙ each_written r.0 r.1; ended = found.ended }

  -- ---- where a list stops

  -- the items before the one that stops
  pub record ListStop (ts : List Kind) (stop : Fault × List Kind) : Type 0 where
    pub all : List A
    pub are : AllByRecursion Is all
    pub rest : List Kind
    pub split : ts ≡ write_many write all rest
    pub begun : starts (first rest) ≡ true
    pub stopped : item rest ≡ Err stop

  stopped_is : (all : List A) → g.AllAre starts item shorter Is write sound all → AllByRecursion Is all
  stopped_is [] h = tt
  stopped_is (a ∷ all) h = (h.0, stopped_is all h.1)

  stopped_written : (all : List A) (rest : List Kind) → g.write_all starts item shorter Is write sound all rest ≡ write_many write all rest
  stopped_written [] rest = refl
  stopped_written (a ∷ all) rest = ap (write a) (stopped_written all rest)

  pub list_stop : (ts : List Kind) (stop : Fault × List Kind) → many starts item ts ≡ Err stop → ListStop ts stop
  list_stop ts stop h =
      let s = g.many_stopped starts item shorter Is write sound ts stop h in
      record { all = s.all; are = stopped_is s.all s.are; rest = s.rest; split = s.split ∙ stopped_written s.all s.rest; begun = s.begun; stopped = s.stopped }
