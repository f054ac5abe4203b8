-- Laws on results: what holds of an error that is passed on.
use Rattle.std.proofs.Common.{◌≡◌, Result, Ok, Err, sym, subst}
use Rattle.std.specs.Prelude.{IfOk, IfErr, IsErrAnd, OnOk}

-- what holds of an error e holds of a result whose error is e
pub err_is : {T E : Type 0} (P : E → Type 0) (r : Result T E) (e : E) → IsErrAnd r (λ f. f ≡ e) → P e → IfErr r P
err_is P (Ok x) e h k = tt
err_is P (Err f) e h k = subst P (sym h) k

-- what follows from the value of a result
pub on_ok : {T E : Type 0} (P Q : Type 0) (r : Result T E) → (P → Q) → OnOk r P → OnOk r Q
on_ok P Q (Ok x) f h = f h
on_ok P Q (Err e) f h = tt

-- what follows for the value of a result
pub ok_then : {X E : Type 0} (r : Result X E) (P Q R : X → Type 0) → IfOk r P → IfOk r Q → ((v : X) → P v → Q v → R v)
    → IfOk r R
ok_then (Ok v) P Q R p q f = f v p q
ok_then (Err e) P Q R p q f = tt
