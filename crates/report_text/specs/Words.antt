-- The words of the codes.
use Rattle.std.specs.Prelude.{ℕ, ◌==◌, ◌/◌, List, [], codes, if◌then◌else◌}
use Rattle.wdl_base.specs.declared.fault.EvalCode.{EvalCode}
use Rattle.wdl_base.specs.declared.fault.EvalCode.TheVariants as eval

-- tokens and grammar
abbrev pub text_word : ℕ → List ℕ
text_word code =
    if code == 101 then codes "NotUtf8" else
    if code == 102 then codes "StrayCharacter" else
    if code == 103 then codes "OpenString" else
    if code == 104 then codes "OpenCommand" else
    if code == 105 then codes "BadEscape" else
    if code == 106 then codes "NumberTooLarge" else
    if code == 107 then codes "TooLong" else
    if code == 110 then codes "Unexpected" else
    if code == 111 then codes "TooDeep" else
    if code == 112 then codes "WrongVersion" else
    if code == 120 then codes "FloatUsed" else
    if code == 121 then codes "ObjectUsed" else
    if code == 122 then codes "SubUsed" else
    if code == 123 then codes "LeftOut" else []

-- imports
abbrev pub library_word : ℕ → List ℕ
library_word code =
    if code == 201 then codes "SchemeRefused" else
    if code == 202 then codes "ImportCircle" else
    if code == 203 then codes "SameNamespace" else
    if code == 204 then codes "StructsDiffer" else
    if code == 205 then codes "TooManyDocuments" else
    if code == 206 then codes "AliasUnknown" else
    if code == 207 then codes "NamespaceNotAName" else []

-- scope and types
abbrev pub check_word : ℕ → List ℕ
check_word code =
    if code == 301 then codes "UnknownName" else
    if code == 302 then codes "UnknownFunction" else
    if code == 303 then codes "NoCoercion" else
    if code == 304 then codes "BadOperands" else
    if code == 305 then codes "BadArguments" else
    if code == 306 then codes "NoMember" else
    if code == 307 then codes "NotCallable" else
    if code == 308 then codes "ArrayInPlaceholder" else
    if code == 309 then codes "ReadOutsideOutputs" else
    if code == 310 then codes "MembersDiffer" else
    if code == 311 then codes "BadRuntime" else
    if code == 312 then codes "WriteMisplaced" else
    if code == 320 then codes "Circular" else
    if code == 321 then codes "Duplicate" else
    if code == 322 then codes "UnknownTask" else
    if code == 323 then codes "InputMissing" else
    if code == 324 then codes "InputUnknown" else
    if code == 325 then codes "ConditionNotBoolean" else
    if code == 326 then codes "NotAnArray" else
    if code == 327 then codes "NoWorkflow" else
    if code == 328 then codes "TooNested" else
    if code == 329 then codes "UnknownType" else
    if code == 330 then codes "StructCircle" else []

-- the inputs of a run
abbrev pub input_word : ℕ → List ℕ
input_word code =
    if code == 401 then codes "NotJson" else
    if code == 402 then codes "NotAnObject" else
    if code == 403 then codes "UnknownInput" else
    if code == 404 then codes "InputMissing" else
    if code == 405 then codes "DoesNotFit" else
    if code == 406 then codes "FloatNumber" else
    if code == 407 then codes "TooLong" else []

-- the word of a code, or nothing for a number that is no code
abbrev pub word_of : ℕ → List ℕ
word_of code =
    if code / 100 == 1 then text_word code else
    if code / 100 == 2 then library_word code else
    if code / 100 == 3 then check_word code else
    if code / 100 == 4 then input_word code else []

-- the number and the word of why an expression has no value
abbrev pub eval_text : EvalCode → List ℕ
eval_text eval.Overflow = codes "501 Overflow"
eval_text eval.ZeroDivisor = codes "502 ZeroDivisor"
eval_text eval.IndexOut = codes "503 IndexOut"
eval_text eval.KeyMissing = codes "504 KeyMissing"
eval_text eval.EmptyArray = codes "505 EmptyArray"
eval_text eval.NothingDefined = codes "506 NothingDefined"
eval_text eval.RepeatedKey = codes "507 RepeatedKey"
eval_text eval.LengthsDiffer = codes "508 LengthsDiffer"
eval_text eval.NegativeRange = codes "509 NegativeRange"
eval_text eval.TooLarge = codes "510 TooLarge"
eval_text eval.FileMissing = codes "511 FileMissing"
eval_text eval.NotText = codes "512 NotText"
eval_text eval.NotAnInteger = codes "513 NotAnInteger"
eval_text eval.NotABoolean = codes "514 NotABoolean"
eval_text eval.NotTwoColumns = codes "515 NotTwoColumns"
eval_text eval.BodyLong = codes "516 BodyLong"
