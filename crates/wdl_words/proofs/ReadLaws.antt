-- What a reading says of a result.
use Rattle.std.proofs.Common.{◌≡◌, false, List, Option, Some, None, Result, Ok, Err, IfOk, IsErrOf}
use Rattle.clap.specs.Words.{Text}
use Rattle.wdl_words.proofs.Limits.{wants_within}
use Rattle.wdl_words.specs.Words.{IsWithinLimits, wants_of_plain, some_nul}
use Rattle.wdl_words.specs.declared.wants.Wants.{Wants}
use Rattle.wdl_words.specs.Faults.{Reads}
use Rattle.wdl_words.specs.declared.error.WordFault.{WordFault}
use Rattle.wdl_words.specs.declared.error.WordFault.TheVariants.{Usage, NoMemory}

pub read_value : {T : Type 0} (o : Option T) (r : Result T WordFault) → Reads o r → IfOk r (λ v. o ≡ Some v)
read_value o (Ok v) h = h
read_value o (Err e) h = tt

pub read_usage : {T : Type 0} (o : Option T) (r : Result T WordFault) → Reads o r → IsErrOf r Usage → o ≡ None
read_usage o (Ok v) h e = cc
read_usage o (Err Usage) h e = h
read_usage o (Err NoMemory) h e = cc

pub within : (words : List Text) (r : Result Wants WordFault) → some_nul words ≡ false → Reads (wants_of_plain words) r
    → IfOk r IsWithinLimits
within words (Ok w) plain h = wants_within words w (rw plain h)
within words (Err e) plain h = tt
