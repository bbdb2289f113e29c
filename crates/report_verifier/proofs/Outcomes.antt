-- Answers that may be want of memory.
use Rattle.std.proofs.Common.{Result, Ok, Err, IfOk}

pub then_ok : {T E : Type 0} (P Q : T → Type 0) → ((t : T) → P t → Q t) → (r : Result T E) → IfOk r P → IfOk r Q
then_ok P Q to (Ok t) h = to t h
then_ok P Q to (Err e) h = tt
