-- What is found of marks and plans, put together.
use Rattle.std.proofs.Common.{◌≡◌, sym, subst, List, length}
use Rattle.jr_tree.specs.Rows.{Rows}
use Rattle.jr_defs.specs.Referents.{Table}
use Rattle.jr_shapes.specs.declared.spelling.Spelling.{Spelling}
use Rattle.jr_runs.specs.Marks.{Marks, marks}
use Rattle.jr_runs.specs.Plans.{Plan, plan_by}
use Rattle.jr_runs.specs.Suits.{AllSuit}
use Rattle.jr_runs.specs.Respelled.{HasRuns, IsRespelled}

pub respelled_by : {p : Rows} {t : Table} {c : List Spelling} {q : Rows} {v : Table} {m : Marks} {x : Plan} → m ≡ marks p t c → x ≡ plan_by p t c m → AllSuit p t m c (length c) → HasRuns p x q v → IsRespelled p t c q v
respelled_by {p = p} {t = t} {c = c} {q = q} {v = v} {m = m} {x = x} a b suit runs = record {
  suited = subst (λ n. AllSuit p t n c (length c)) a suit;
  written = subst (λ n. HasRuns p (plan_by p t c n) q v) a (subst (λ y. HasRuns p y q v) b runs);
}

pub suited_by : {p : Rows} {t : Table} {c : List Spelling} {q : Rows} {v : Table} {m : Marks} → m ≡ marks p t c → IsRespelled p t c q v → AllSuit p t m c (length c)
suited_by {p = p} {t = t} {c = c} a h = subst (λ n. AllSuit p t n c (length c)) (sym a) h.suited

pub runs_by : {p : Rows} {t : Table} {c : List Spelling} {q : Rows} {v : Table} {m : Marks} {x : Plan} → m ≡ marks p t c → x ≡ plan_by p t c m → IsRespelled p t c q v → HasRuns p x q v
runs_by {p = p} {t = t} {c = c} {q = q} {v = v} a b h = subst (λ y. HasRuns p y q v) (sym b) (subst (λ n. HasRuns p (plan_by p t c n) q v) (sym a) h.written)
