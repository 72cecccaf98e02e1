-- What each family says of its replies is what the product promises.
use Rattle.std.proofs.Common.{◌≡◌, ℕ, List, inl, inr}
use Rattle.command_words.specs.Asks.{Asks, Load, Solve, Warm, McSolve, Edit, Trim, Save, Restore, Bound, Cert, Write, Quit, Unknown, Misused, NoNumber, asks_of}
use Rattle.command_family.specs.Kinds.{Kind, Optimal, Within, Infeasible, Unbounded, StoppedNodes, StoppedTree, StoppedPivots, StoppedWide, CompleteFront, FrontPart, BoundShown, Done, UnknownCommand, WrongArguments, NoModel, UnknownName, TakenName, WrongNumber, OverLimit, NoBounds, BadSides, NotWhole, NoAnswer, StoreFailed, FileTooLong, FaultyText, FaultySearch, WantsMemory}
use Rattle.command_family.specs.State.{ShellState}
use Rattle.file_commands.specs.Family.{FileAsks, FileCause}
use Rattle.file_commands.specs.Family as files
use Rattle.edit_commands.specs.Family.{ChangeAsks, Change, ChangeCause}
use Rattle.edit_commands.specs.Family as edits
use Rattle.bound_commands.specs.Family.{BoundsAsks, BoundsCause}
use Rattle.bound_commands.specs.Family as sides
use Rattle.cert_commands.specs.Family.{CertAsks, CertsCause}
use Rattle.cert_commands.specs.Family as certs
use Rattle.search_replies.specs.Family.{SearchAsks, SearchCause}
use Rattle.search_replies.specs.Family as search
use Rattle.front_commands.specs.Family.{FrontAsks, FrontCause}
use Rattle.front_commands.specs.Family as front
use Rattle.sym_shell.specs.Own.{OwnAsks, OwnCause}
use Rattle.sym_shell.specs.Own as rest
use Rattle.sym_shell.specs.Step.{IsAsked, filing, changing, bounding, certifying, searching, fronting, remaining}
use Rattle.sym_shell.specs.Headline.{Promise}
use Rattle.sym_shell.specs.Causes.{cause_in}

-- one of a family's commands is asked
is_asked : {A : Type 0} (command : A → Asks) (words : List (List ℕ)) (P : A → Type 0) (asks : A) → asks_of words ≡ command asks → P asks → IsAsked command words P
is_asked command words P asks asked h = record { asks = asks; asked = asked; is = h }

module _ (old : ShellState) (words : List (List ℕ)) (reply : List ℕ) (new : ShellState) where
  search-promise : (asks : SearchAsks) → asks_of words ≡ searching asks → (k : Kind) → SearchCause asks k old reply new → Promise k old words reply new
  search-promise asks asked Optimal h = is_asked searching words (λ a. SearchCause a Optimal old reply new) asks asked h
  search-promise asks asked Within h = is_asked searching words (λ a. SearchCause a Within old reply new) asks asked h
  search-promise asks asked Infeasible h = inl (is_asked searching words (λ a. SearchCause a Infeasible old reply new) asks asked h)
  search-promise asks asked Unbounded h = is_asked searching words (λ a. SearchCause a Unbounded old reply new) asks asked h
  search-promise asks asked StoppedNodes h = is_asked searching words (λ a. SearchCause a StoppedNodes old reply new) asks asked h
  search-promise asks asked StoppedTree h = is_asked searching words (λ a. SearchCause a StoppedTree old reply new) asks asked h
  search-promise asks asked StoppedPivots h = is_asked searching words (λ a. SearchCause a StoppedPivots old reply new) asks asked h
  search-promise asks asked StoppedWide h = is_asked searching words (λ a. SearchCause a StoppedWide old reply new) asks asked h
  search-promise asks asked NoModel h = inl (is_asked searching words (λ a. SearchCause a NoModel old reply new) asks asked h)
  search-promise asks asked OverLimit h = inr (is_asked searching words (λ a. SearchCause a OverLimit old reply new) asks asked h)
  search-promise asks asked WantsMemory h = h
  search-promise asks asked other h = absurd h

  file-promise : (asks : FileAsks) → asks_of words ≡ filing asks → (k : Kind) → FileCause asks k old reply new → Promise k old words reply new
  file-promise asks asked Done h = inl (is_asked filing words (λ a. FileCause a Done old reply new) asks asked h)
  file-promise asks asked NoModel h = inr (inl (is_asked filing words (λ a. FileCause a NoModel old reply new) asks asked h))
  file-promise asks asked StoreFailed h = inl (is_asked filing words (λ a. FileCause a StoreFailed old reply new) asks asked h)
  file-promise asks asked FileTooLong h = inl (is_asked filing words (λ a. FileCause a FileTooLong old reply new) asks asked h)
  file-promise asks asked FaultyText h = is_asked filing words (λ a. FileCause a FaultyText old reply new) asks asked h
  file-promise asks asked FaultySearch h = is_asked filing words (λ a. FileCause a FaultySearch old reply new) asks asked h
  file-promise (files.Load file intupper) asked WantsMemory h = h
  file-promise (files.Load file intupper) asked other h = absurd h
  file-promise (files.Write file) asked WantsMemory h = h
  file-promise (files.Write file) asked other h = absurd h
  file-promise (files.Save file) asked WantsMemory h = h
  file-promise (files.Save file) asked other h = absurd h
  file-promise (files.Restore file) asked WantsMemory h = h
  file-promise (files.Restore file) asked other h = absurd h

  cert-promise : (asks : CertAsks) → asks_of words ≡ certifying asks → (k : Kind) → CertsCause asks k old reply new → Promise k old words reply new
  cert-promise asks asked Done h = inr (inl (is_asked certifying words (λ a. CertsCause a Done old reply new) asks asked h))
  cert-promise asks asked NoModel h = inr (inr (inl (is_asked certifying words (λ a. CertsCause a NoModel old reply new) asks asked h)))
  cert-promise asks asked NoAnswer h = is_asked certifying words (λ a. CertsCause a NoAnswer old reply new) asks asked h
  cert-promise asks asked StoreFailed h = inr (is_asked certifying words (λ a. CertsCause a StoreFailed old reply new) asks asked h)
  cert-promise asks asked FileTooLong h = inr (is_asked certifying words (λ a. CertsCause a FileTooLong old reply new) asks asked h)
  cert-promise (certs.Cert file) asked WantsMemory h = h
  cert-promise (certs.Cert file) asked other h = absurd h

  change-promise : (asks : ChangeAsks) → asks_of words ≡ changing asks → (k : Kind) → ChangeCause asks k old reply new → Promise k old words reply new
  change-promise asks asked Done h = inr (inr (inl (is_asked changing words (λ a. ChangeCause a Done old reply new) asks asked h)))
  change-promise asks asked WrongArguments h = inr (inl (is_asked changing words (λ a. ChangeCause a WrongArguments old reply new) asks asked h))
  change-promise asks asked WrongNumber h = inr (inl (is_asked changing words (λ a. ChangeCause a WrongNumber old reply new) asks asked h))
  change-promise asks asked NoModel h = inr (inr (inr (inl (is_asked changing words (λ a. ChangeCause a NoModel old reply new) asks asked h))))
  change-promise asks asked UnknownName h = inl (is_asked changing words (λ a. ChangeCause a UnknownName old reply new) asks asked h)
  change-promise asks asked TakenName h = is_asked changing words (λ a. ChangeCause a TakenName old reply new) asks asked h
  change-promise asks asked OverLimit h = inl (is_asked changing words (λ a. ChangeCause a OverLimit old reply new) asks asked h)
  change-promise asks asked NoBounds h = is_asked changing words (λ a. ChangeCause a NoBounds old reply new) asks asked h
  change-promise asks asked BadSides h = inl (is_asked changing words (λ a. ChangeCause a BadSides old reply new) asks asked h)
  change-promise (Change behind) asked WantsMemory h = h
  change-promise (Change behind) asked other h = absurd h
  change-promise (edits.Trim depth) asked WantsMemory h = h
  change-promise (edits.Trim depth) asked other h = absurd h

  bound-promise : (asks : BoundsAsks) → asks_of words ≡ bounding asks → (k : Kind) → BoundsCause asks k old reply new → Promise k old words reply new
  bound-promise asks asked BoundShown h = is_asked bounding words (λ a. BoundsCause a BoundShown old reply new) asks asked h
  bound-promise asks asked WrongArguments h = inr (inr (is_asked bounding words (λ a. BoundsCause a WrongArguments old reply new) asks asked h))
  bound-promise asks asked WrongNumber h = inr (inr (is_asked bounding words (λ a. BoundsCause a WrongNumber old reply new) asks asked h))
  bound-promise asks asked NoModel h = inr (inr (inr (inr (inl (is_asked bounding words (λ a. BoundsCause a NoModel old reply new) asks asked h)))))
  bound-promise asks asked UnknownName h = inr (is_asked bounding words (λ a. BoundsCause a UnknownName old reply new) asks asked h)
  bound-promise asks asked BadSides h = inr (is_asked bounding words (λ a. BoundsCause a BadSides old reply new) asks asked h)
  bound-promise (sides.Bound which numbers behind) asked WantsMemory h = h
  bound-promise (sides.Bound which numbers behind) asked other h = absurd h

  front-promise : (asks : FrontAsks) → asks_of words ≡ fronting asks → (k : Kind) → FrontCause asks k old reply new → Promise k old words reply new
  front-promise asks asked CompleteFront h = is_asked fronting words (λ a. FrontCause a CompleteFront old reply new) asks asked h
  front-promise asks asked FrontPart h = is_asked fronting words (λ a. FrontCause a FrontPart old reply new) asks asked h
  front-promise asks asked Infeasible h = inr (is_asked fronting words (λ a. FrontCause a Infeasible old reply new) asks asked h)
  front-promise asks asked NotWhole h = is_asked fronting words (λ a. FrontCause a NotWhole old reply new) asks asked h
  front-promise asks asked NoModel h = inr (inr (inr (inr (inr (is_asked fronting words (λ a. FrontCause a NoModel old reply new) asks asked h)))))
  front-promise asks asked WantsMemory h = h
  front-promise asks asked other h = absurd h

  rest-promise : (asks : OwnAsks) → asks_of words ≡ remaining asks → (k : Kind) → OwnCause asks k old reply new → Promise k old words reply new
  rest-promise asks asked Done h = inr (inr (inr (is_asked remaining words (λ a. OwnCause a Done old reply new) asks asked h)))
  rest-promise asks asked UnknownCommand h = is_asked remaining words (λ a. OwnCause a UnknownCommand old reply new) asks asked h
  rest-promise asks asked WrongArguments h = inl (is_asked remaining words (λ a. OwnCause a WrongArguments old reply new) asks asked h)
  rest-promise asks asked WrongNumber h = inl (is_asked remaining words (λ a. OwnCause a WrongNumber old reply new) asks asked h)
  rest-promise rest.Quit asked other h = absurd h
  rest-promise (rest.Unknown word) asked WantsMemory h = h
  rest-promise (rest.Unknown word) asked other h = absurd h
  rest-promise rest.Misused asked WantsMemory h = h
  rest-promise rest.Misused asked other h = absurd h
  rest-promise (rest.NoNumber word) asked WantsMemory h = h
  rest-promise (rest.NoNumber word) asked other h = absurd h

  pub promises : (asks : Asks) → asks_of words ≡ asks → (k : Kind) → cause_in asks k old reply new → Promise k old words reply new
  promises (Load file intupper) asked k h = file-promise (files.Load file intupper) asked k h
  promises (Solve options) asked k h = search-promise (search.Solve options) asked k h
  promises (Warm options) asked k h = search-promise (search.Warm options) asked k h
  promises (McSolve nodes pivots) asked k h = front-promise (front.McSolve nodes pivots) asked k h
  promises (Edit behind) asked k h = change-promise (Change behind) asked k h
  promises (Trim depth) asked k h = change-promise (edits.Trim depth) asked k h
  promises (Save file) asked k h = file-promise (files.Save file) asked k h
  promises (Restore file) asked k h = file-promise (files.Restore file) asked k h
  promises (Bound which numbers behind) asked k h = bound-promise (sides.Bound which numbers behind) asked k h
  promises (Cert file) asked k h = cert-promise (certs.Cert file) asked k h
  promises (Write file) asked k h = file-promise (files.Write file) asked k h
  promises Quit asked k h = rest-promise rest.Quit asked k h
  promises (Unknown word) asked k h = rest-promise (rest.Unknown word) asked k h
  promises Misused asked k h = rest-promise rest.Misused asked k h
  promises (NoNumber word) asked k h = rest-promise (rest.NoNumber word) asked k h
