-- What clap's clauses say of a reading.
use Rattle.std.proofs.Common.{◌≡◌, ◌⊎◌, Bool, true, false, ◌&&◌, List, [], ◌∷◌, Option, Some, None, Result, Ok, Err, IsErrAnd, refl, inl, inr}
use Rattle.clap.specs.Kinds.{IsAmong, Kinds}
use Rattle.clap.specs.Words.{App, Text, Row, fault_of, is_simple, is_simple_and_free, matches_of}
use Rattle.clap.specs.Simple.{built}
use Rattle.clap.specs.Faults.{is_free_app}
use Rattle.clap.specs.declared.error.kind.ErrorKind.{ErrorKind}
use Rattle.clap.specs.declared.error.kind.ErrorKind.TheVariants.{OutOfMemory}
use Rattle.clap.specs.declared.parser.matches.ArgMatches.{ArgMatches}
use Rattle.wdl_words.specs.Commands.{found_in, without_errors}
use Rattle.wdl_words.specs.Faults.{FindsIn, Misses, fault_for}
use Rattle.wdl_words.specs.declared.error.WordFault.{WordFault}
use Rattle.wdl_words.specs.declared.error.WordFault.TheVariants.{Usage, NoMemory}

pub misses : {T : Type 0} (o : Option T) (fault : WordFault) → o ≡ None → Misses o fault
misses o Usage h = h
misses o NoMemory h = tt

some_kind : (k : ErrorKind) (kinds : Kinds) (rows : List Row) → IsAmong k kinds → without_errors kinds rows ≡ None
some_kind k [] rows h = absurd h
some_kind k (x ∷ xs) rows h = refl

-- an error of clap's is for want of memory, or there is nothing to find
pub missed : (app : App) (words : List Text) (k : ErrorKind) → (k ≡ OutOfMemory) ⊎ IsAmong k (fault_of app words)
    → Misses (found_in app words) (fault_for k)
unfolding found_in
missed app words k (inl e) = rw e tt
missed app words k (inr h) = misses _ _ (some_kind k (fault_of app words) (matches_of app words) h)

pub missed_in : (app : App) (words : List Text) (r : Result ArgMatches WordFault) (k : ErrorKind) → IsErrAnd r (λ f. f ≡ fault_for k)
    → (k ≡ OutOfMemory) ⊎ IsAmong k (fault_of app words) → FindsIn app words r
missed_in app words (Ok m) k h e = absurd h
missed_in app words (Err f) k h e = rw h (missed app words k e)

-- matches that clap gives are those that are found
pub met : (app : App) (words : List Text) (rows : List Row) → fault_of app words ≡ [] → rows ≡ matches_of app words
    → found_in app words ≡ Some rows
unfolding found_in
met app words rows none same = rw (none, same) refl

pub simple_of : (app : App) → is_simple_and_free app ≡ true → is_simple app ≡ true
simple_of app h = go (is_simple app) (is_free_app (built app)) h
  where
    go : (a b : Bool) → a && b ≡ true → a ≡ true
    go true b h = refl
    go false b h = h
