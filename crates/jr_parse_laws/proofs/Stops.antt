-- Where a reader stops, no tree goes on: from a part to the whole.
use Rattle.std.proofs.Common.{◌≡◌, ℕ, zero, suc, ◌≤◌, List, [], ◌∷◌, ◌++◌, Err, refl, sym, ap, ◌∙◌, arith}
use Rattle.jr_base.specs.declared.kind.Kind.{Kind}
use Rattle.jr_parse_laws.specs.declared.fault.Fault.{Fault}
use Rattle.jr_parse_laws.specs.declared.fault.Fault.TheVariants.{NoTree, TooDeep, OutOfMemory}
use Rattle.jr_parse_laws.specs.Parsers.{first, Parser}
use Rattle.jr_parse_laws.specs.Viable.{Alike, Begun, Wider, Deeper, Stuck}
use Rattle.jr_parse_laws.proofs.Outcomes.{one_first}

pub here : (rest w : List Kind) → Alike rest w rest w
here rest w = record { front = []; one = refl; two = refl }

pub next : {rest w ts us : List Kind} (k : Kind) → Alike rest w ts us → Alike rest w (k ∷ ts) (k ∷ us)
next k a = record { front = k ∷ a.front; one = ap (λ ts. k ∷ ts) a.one; two = ap (λ ts. k ∷ ts) a.two }

pub first_front : (front rest w : List Kind) → first rest ≡ first w → first (front ++ rest) ≡ first (front ++ w)
first_front [] rest w e = e
first_front (k ∷ front) rest w e = refl

pub first_alike : {rest w ts us : List Kind} → Alike rest w ts us → first rest ≡ first w → first ts ≡ first us
first_alike {rest} {w} a e = ap first a.one ∙ first_front a.front rest w e ∙ sym (ap first a.two)

-- ---- depths

pub wider_le : (f : Fault) (room other : ℕ) → Wider f room other → room ≤ other
wider_le NoTree room other h = h
wider_le TooDeep room other h = omega arith
wider_le OutOfMemory room other h = absurd h

pub record Wide (f : Fault) (room other : ℕ) : Type 0 where
  pub inner : ℕ
  pub is : other ≡ suc inner
  pub wider : Wider f room inner

pub wide : (f : Fault) (room other : ℕ) → Wider f (suc room) other → Wide f room other
wide NoTree room zero h = absurd (omega arith)
wide NoTree room (suc other) h = record { inner = other; is = refl; wider = omega arith }
wide TooDeep room zero h = absurd (omega arith)
wide TooDeep room (suc other) h = record { inner = other; is = refl; wider = omega arith }
wide OutOfMemory room other h = absurd h

-- ---- a part that stops stops the whole, and a token that is missing stops it where it should stand

-- what is put before two lists leaves them alike
pub record Leading (into : List Kind → List Kind) : Type 0 where
  pub alike : {rest w ts us : List Kind} → Alike rest w ts us → Alike rest w (into ts) (into us)

pub deeper_by : {A B : Type 0} {Is : ℕ → A → Type 0} {write : A → List Kind → List Kind} {Is' : ℕ → B → Type 0} {write' : B → List Kind → List Kind} {ts ts' : List Kind} (f : Fault) (rest : List Kind)
    → ((r : ℕ) (q : List Kind) → Begun (Is r) write q ts → (s : ℕ) × Begun (Is' s) write' q ts') → Deeper Is write f rest ts → Deeper Is' write' f rest ts'
deeper_by NoTree rest go d = tt
deeper_by TooDeep [] go d = absurd d
deeper_by TooDeep (k ∷ rest) go d = go d.0 rest d.1
deeper_by OutOfMemory rest go d = absurd d

pub begun_by : {A B : Type 0} {P : A → Type 0} {write : A → List Kind → List Kind} {Q : B → Type 0} {write' : B → List Kind → List Kind} (rest ts : List Kind)
    (into : List Kind → List Kind) → Leading into
    → (whole : A → B) (after : List Kind → List Kind) → ((a : A) (z : List Kind) → write' (whole a) z ≡ into (write a (after z)))
    → ((a : A) → P a → Q (whole a)) → Begun P write rest ts → Begun Q write' rest (into ts)
begun_by {write = write} rest ts into leading whole after written is b = record {
  tree = whole b.tree;
  is = is b.tree b.is;
  more = λ z. b.more (after z);
  alike = λ z. let a = leading.alike (b.alike (after z)) in record { front = a.front; one = a.one; two = written b.tree z ∙ a.two };
}

pub stuck_within : {A B : Type 0} {Is : ℕ → A → Type 0} {write : A → List Kind → List Kind} {read : ℕ → Parser A} {Is' : ℕ → B → Type 0} {write' : B → List Kind → List Kind} {read' : ℕ → Parser B}
    (room : ℕ) (ts : List Kind) (f : Fault) (rest : List Kind)
    (into : List Kind → List Kind) → Leading into
    → (whole : A → B) (after : List Kind → List Kind) → ((a : A) (z : List Kind) → write' (whole a) z ≡ into (write a (after z)))
    → ((r : ℕ) (a : A) → Is r a → (s : ℕ) × Is' s (whole a)) → ((a : A) → Is room a → Is' (suc room) (whole a))
    → ((r : ℕ) (us w : List Kind) → room ≤ r → first ts ≡ first us → read r us ≡ Err (f, w) → read' (suc r) (into us) ≡ Err (f, w))
    → Stuck Is write read room ts f rest → Stuck Is' write' read' (suc room) (into ts) f rest
stuck_within {write' = write'} {read' = read'} room ts f rest into leading whole after written deep is reads stuck = record {
  viable = begun_by rest ts into leading whole after written is stuck.viable;
  deeper = deeper_by f rest (λ r q b. let d = deep r b.tree b.is in (
    d.0,
    record {
      tree = whole b.tree;
      is = d.1;
      more = λ z. b.more (after z);
      alike = λ z. let a = leading.alike (b.alike (after z)) in record { front = a.front; one = a.one; two = written b.tree z ∙ a.two };
    },
  )) stuck.deeper;
  alone = λ other w wider e.
      let r = wide f room other wider in
      let v = stuck.alone r.inner w r.wider e in
      (into v.0, leading.alike v.1, ap (λ n. read' n (into v.0)) r.is ∙ reads r.inner v.0 w (wider_le f room r.inner r.wider) (first_alike v.1 e) v.2);
}

-- the same, where the whole has as many levels as the part
pub stuck_beside : {A B : Type 0} {Is : ℕ → A → Type 0} {write : A → List Kind → List Kind} {read : ℕ → Parser A} {Is' : ℕ → B → Type 0} {write' : B → List Kind → List Kind} {read' : ℕ → Parser B}
    (room : ℕ) (ts : List Kind) (f : Fault) (rest : List Kind)
    (into : List Kind → List Kind) → Leading into
    → (whole : A → B) (after : List Kind → List Kind) → ((a : A) (z : List Kind) → write' (whole a) z ≡ into (write a (after z)))
    → ((r : ℕ) (a : A) → Is r a → (s : ℕ) × Is' s (whole a)) → ((a : A) → Is room a → Is' room (whole a))
    → ((r : ℕ) (us w : List Kind) → room ≤ r → first ts ≡ first us → read r us ≡ Err (f, w) → read' r (into us) ≡ Err (f, w))
    → Stuck Is write read room ts f rest → Stuck Is' write' read' room (into ts) f rest
stuck_beside {write' = write'} {read' = read'} room ts f rest into leading whole after written deep is reads stuck = record {
  viable = begun_by rest ts into leading whole after written is stuck.viable;
  deeper = deeper_by f rest (λ r q b. let d = deep r b.tree b.is in (
    d.0,
    record {
      tree = whole b.tree;
      is = d.1;
      more = λ z. b.more (after z);
      alike = λ z. let a = leading.alike (b.alike (after z)) in record { front = a.front; one = a.one; two = written b.tree z ∙ a.two };
    },
  )) stuck.deeper;
  alone = λ other w wider e.
      let v = stuck.alone other w wider e in
      (into v.0, leading.alike v.1, reads other v.0 w (wider_le f room other wider) (first_alike v.1 e) v.2);
}

pub deep_beside : {A : Type 0} {Is : ℕ → A → Type 0} {write : A → List Kind → List Kind} {read : ℕ → Parser A} (room : ℕ) (k : Kind) (rest : List Kind)
    (into : List Kind → List Kind) → Leading into
    → (tree : A) (after : List Kind → List Kind) → ((z : List Kind) → write tree z ≡ into (after z)) → Is room tree
    → (deep : ℕ) (tall : A) (past : List Kind → List Kind) → ((z : List Kind) → write tall z ≡ into (k ∷ past z)) → Is deep tall
    → ((w : List Kind) → read room (into (k ∷ w)) ≡ Err (TooDeep, k ∷ w))
    → Stuck Is write read room (into (k ∷ rest)) TooDeep (k ∷ rest)
deep_beside {read = read} room k rest into leading tree after written is deep tall past spelled is_tall reads = record {
  viable = record { tree = tree; is = is; more = after; alike = λ z. let a = leading.alike (here (k ∷ rest) (after z)) in record { front = a.front; one = a.one; two = written z ∙ a.two } };
  deeper = (deep, record { tree = tall; is = is_tall; more = past; alike = λ z. let a = leading.alike (next k (here rest (past z))) in record { front = a.front; one = a.one; two = spelled z ∙ a.two } });
  alone = λ other w wider e.
      let v = one_first k w e in
      (into w, leading.alike (here (k ∷ rest) w), ap (λ n. read n (into w)) wider ∙ ap (λ w. read room (into w)) v.1 ∙ reads v.0 ∙ ap (λ (w : List Kind). Err (TooDeep, w)) (sym v.1));
}

pub none_here : {A : Type 0} {Is : ℕ → A → Type 0} {write : A → List Kind → List Kind} {read : ℕ → Parser A} (room : ℕ) (rest : List Kind)
    (into : List Kind → List Kind) → Leading into
    → (tree : A) (after : List Kind → List Kind) → ((z : List Kind) → write tree z ≡ into (after z)) → Is room tree
    → ((r : ℕ) (w : List Kind) → room ≤ r → first rest ≡ first w → read r (into w) ≡ Err (NoTree, w))
    → Stuck Is write read room (into rest) NoTree rest
none_here {read = read} room rest into leading tree after written is reads = record {
  viable = record { tree = tree; is = is; more = after; alike = λ z. let a = leading.alike (here rest (after z)) in record { front = a.front; one = a.one; two = written z ∙ a.two } };
  deeper = tt;
  alone = λ other w wider e. (into w, leading.alike (here rest w), reads other w wider e);
}

-- nothing that can stand here stands here
pub stuck_here : {A : Type 0} {Is : ℕ → A → Type 0} {write : A → List Kind → List Kind} {read : ℕ → Parser A} (room : ℕ) (rest : List Kind)
    (into : List Kind → List Kind) → Leading into
    → (tree : A) (after : List Kind → List Kind) → ((z : List Kind) → write tree z ≡ into (after z)) → Is (suc room) tree
    → ((r : ℕ) (w : List Kind) → room ≤ r → first rest ≡ first w → read (suc r) (into w) ≡ Err (NoTree, w))
    → Stuck Is write read (suc room) (into rest) NoTree rest
stuck_here {read = read} room rest into leading tree after written is reads =
    none_here (suc room) rest into leading tree after written is
    (λ other w le e. let r = wide NoTree room other le in ap (λ n. read n (into w)) r.is ∙ reads r.inner w r.wider e)

pub leading_nothing : Leading (λ ts. ts)
leading_nothing = record { alike = λ a. a }

pub leading_kind : {into : List Kind → List Kind} (k : Kind) → Leading into → Leading (λ ts. k ∷ into ts)
leading_kind k l = record { alike = λ a. next k (l.alike a) }

-- what is written in front leaves alike what is alike
pub leading_by : {A : Type 0} (write : A → List Kind → List Kind) → ((a : A) (front rest : List Kind) → write a (front ++ rest) ≡ write a front ++ rest) → (a : A) → Leading (write a)
leading_by write front a = record { alike = λ {rest} {w} l. record { front = write a l.front; one = ap (write a) l.one ∙ front a l.front rest; two = ap (write a) l.two ∙ front a l.front w } }
