-- Lines served one after the other, and their report. Nothing here looks into a step.
use Rattle.std.proofs.Common.{ℕ, ◌≡◌, ◌<◌, ◌+◌, ◌∙◌, List, [], ◌∷◌, ◌++◌, Option, Some, None, take, drop, length, map}
use Rattle.std.proofs.Common.{get_or, Bor, sym, ap, subst, refl, append_assoc, arith, Bool, true, false, ◌||◌}
use Rattle.std.proofs.Common.{if◌then◌else◌}
use Rattle.std.proofs.lemmas.List.{take-append-drop, take_more, map-append, length-take-le, length-map}
use Rattle.std.specs.Str.{IsUtf8}
use Rattle.std.proofs.lemmas.Str.{IsUtf8-append}
use Rattle.outside_model.specs.Files.{Files, Told}
use Rattle.script_report.specs.Commands.{reading_of}
use Rattle.script_report.specs.declared.replies.Reply.{Reply}
use Rattle.session_model.specs.Run.{Line, is_silent, is_refusal, some_refusal, spoken_from, report_text}
use Rattle.session_model.proofs.Chains.{chained, reported}
use Rattle.instance_cli.specs.Lines.{Reported, ReportedInPart, Stops, WritesInPart}
use Rattle.instance_cli.specs.Moments.{Moment}
use Rattle.instance_cli.specs.Report.{ServesLine, NextAsks}
use Rattle.instance_cli.specs.declared.outcome.Status.{Status}
use Rattle.instance_cli.specs.declared.outcome.Status.TheVariants as status

if_or : (b : Bool) (c d e : Bool) → c ≡ (d || e) → (if b then true else c) ≡ ((if b then true else d) || e)
if_or true c d e h = refl
if_or false c d e h = h

refusal_append : (rs ss : List Reply) → some_refusal (rs ++ ss) ≡ (some_refusal rs || some_refusal ss)
refusal_append [] ss = refl
refusal_append (r ∷ rs) ss =
    if_or (is_refusal r) (some_refusal (rs ++ ss)) (some_refusal rs) (some_refusal ss) (refusal_append rs ss)

spoken_if : (b : Bool) (l : Line) (xs ys zs : List Line) → xs ≡ ys ++ zs
    → (if b then xs else l ∷ xs) ≡ (if b then ys else l ∷ ys) ++ zs
spoken_if true l xs ys zs e = e
spoken_if false l xs ys zs e = ap (λ (ls : List Line). l ∷ ls) e

-- the spoken lines of texts and further texts
spoken_append : (n m : ℕ) (xs ys : List (List ℕ)) → m ≡ n + length xs
    → spoken_from n (xs ++ ys) ≡ spoken_from n xs ++ spoken_from m ys
spoken_append n m [] ys e = let same : m ≡ n = omega arith in ap (λ (k : ℕ). spoken_from k ys) (sym same)
spoken_append n m (x ∷ xs) ys e =
    spoken_if (is_silent (reading_of x)) _ (spoken_from (n + 1) (xs ++ ys)) (spoken_from (n + 1) xs) (spoken_from m ys)
    (spoken_append (n + 1) m xs ys (omega arith))

-- what was taken, and what was taken then
took_on : (old mid new : Option (List ℕ)) (first second : List ℕ) → Told old (λ taken. mid ≡ Some (taken ++ first))
    → Told mid (λ taken. new ≡ Some (taken ++ second)) → Told old (λ taken. new ≡ Some (taken ++ (first ++ second)))
took_on None mid new first second h k = tt
took_on (Some taken) mid new first second h k =
    let k' : new ≡ Some ((taken ++ first) ++ second) =
    subst (λ (o : Option (List ℕ)). Told o (λ t. new ≡ Some (t ++ second))) h k in
    k' ∙ ap Some (append_assoc taken first second)

abbrev Took : Option (List ℕ) → Option (List ℕ) → List ℕ → Type 0
Took old new bytes = Told old (λ taken. new ≡ Some (taken ++ bytes))

-- what was reported, and what is reported from there on
reported_on : (files seen : Option Files) (old mid new : Option (List ℕ)) (xs ys : List Line)
    (first middle last : Moment) (r q : Bool) → seen ≡ files → Reported files old mid first xs middle r
    → Reported seen mid new middle ys last q →
    Reported files old new first (xs ++ ys) last (r || q)
reported_on files seen old mid new xs ys first middle last r q e h later =
    let k : Reported files mid new middle ys last q =
    subst (λ (f : Option Files). Reported f mid new middle ys last q) e later in
    record {
      replies = h.replies ++ k.replies;
      run = chained (ServesLine files) first middle last xs ys h.replies k.replies h.run k.run;
      took = subst (Took old new) (sym (reported (ServesLine files) first middle xs ys h.replies k.replies h.run))
          (took_on old mid new (report_text xs h.replies) (report_text ys k.replies) h.took k.took);
      status = refusal_append h.replies k.replies
          ∙ (ap (λ (b : Bool). b || some_refusal k.replies) h.status ∙ ap (λ (b : Bool). r || b) k.status);
      text = subst IsUtf8 (sym (reported (ServesLine files) first middle xs ys h.replies k.replies h.run))
          (IsUtf8-append (report_text xs h.replies) (report_text ys k.replies) h.text k.text);
    }

-- what was reported, and what is reported in part from there on
part_on : (files seen : Option Files) (old mid new : Option (List ℕ)) (xs ys : List Line) (first middle : Moment)
    (r : Bool) (misses : ℕ) (result : Status) → seen ≡ files → Reported files old mid first xs middle r →
    ReportedInPart seen mid new middle ys misses result → ReportedInPart files old new first (xs ++ ys) misses result
part_on files seen old mid new xs ys first middle r misses result e h later =
    let k : ReportedInPart files mid new middle ys misses result =
    subst (λ (f : Option Files). ReportedInPart f mid new middle ys misses result) e later in
    let text : report_text (xs ++ k.done) (h.replies ++ k.replies) ++ k.cut ≡ report_text xs h.replies ++
    (report_text k.done k.replies ++ k.cut) =
    ap (λ (t : List ℕ). t ++ k.cut) (reported (ServesLine files) first middle xs k.done h.replies k.replies h.run)
    ∙ append_assoc (report_text xs h.replies) (report_text k.done k.replies) k.cut in
    record {
      done = xs ++ k.done;
      rest = k.rest;
      parts = ap (λ (ls : List Line). xs ++ ls) k.parts ∙ sym (append_assoc xs k.done k.rest);
      replies = h.replies ++ k.replies;
      middle = k.middle;
      run = chained (ServesLine files) first middle k.middle xs k.done h.replies k.replies h.run k.run;
      ends = k.ends;
      cut = k.cut;
      took = subst (Took old new) (sym text)
          (took_on old mid new (report_text xs h.replies) (report_text k.done k.replies ++ k.cut) h.took k.took);
      next = k.next;
    }

asks_more : (xs ys : List Line) → NextAsks xs → NextAsks (xs ++ ys)
asks_more [] ys h = absurd h
asks_more (x ∷ xs) ys h = h

writes_more : (files : Option Files) (before : Moment) (xs ys : List Line) (cut : List ℕ)
    → WritesInPart files before xs cut → WritesInPart files before (xs ++ ys) cut
writes_more files before [] ys cut h = absurd h
writes_more files before (x ∷ xs) ys cut h = h

stops_more : (result : Status) (files : Option Files) (before : Moment) (xs ys : List Line) (cut : List ℕ)
    → Stops result files before xs cut → Stops result files before (xs ++ ys) cut
stops_more status.ReadFault files before xs ys cut h = (h.0, asks_more xs ys h.1)
stops_more status.WriteFault files before xs ys cut h = writes_more files before xs ys cut h
stops_more status.Memory files before xs ys cut h = h
stops_more status.Done files before xs ys cut h = absurd h
stops_more status.DoneRefused files before xs ys cut h = absurd h
stops_more status.Usage files before xs ys cut h = absurd h
stops_more status.Missing files before xs ys cut h = absurd h
stops_more status.TooLong files before xs ys cut h = absurd h
stops_more status.NotText files before xs ys cut h = absurd h
stops_more status.Rejected files before xs ys cut h = absurd h
stops_more status.BadWeights files before xs ys cut h = absurd h

-- in part over the first lines, and so over further ones
part_more : (files : Option Files) (old new : Option (List ℕ)) (xs ys : List Line) (first : Moment) (misses : ℕ)
    (result : Status) → ReportedInPart files old new first xs misses result
    → ReportedInPart files old new first (xs ++ ys) misses result
part_more files old new xs ys first misses result h = record {
  done = h.done;
  rest = h.rest ++ ys;
  parts = ap (λ (ls : List Line). ls ++ ys) h.parts ∙ append_assoc h.done h.rest ys;
  replies = h.replies;
  middle = h.middle;
  run = h.run;
  ends = h.ends;
  cut = h.cut;
  took = h.took;
  next = stops_more result files h.middle h.rest ys h.cut h.next;
}

-- Over the lines of a slice.

abbrev pub now_of : List (Bor (List ℕ)) → List (List ℕ)
now_of ls = map (λ l. l.now) ls

-- the spoken lines up to here, and this one
pub next_line : (ls : List (Bor (List ℕ))) (i : ℕ) (d : Bor (List ℕ)) → i < length ls →
    spoken_from 1 (now_of (take (i + 1) ls)) ≡ spoken_from 1 (now_of (take i ls)) ++ spoken_from (i + 1)
    ((get_or ls i d).now ∷ [])
next_line ls i d lt =
    let mapped : length (now_of (take i ls)) ≡ length (take i ls) = simp length-map in
    let taken : length (take i ls) ≡ i = length-take-le i ls (omega arith) in
    let count : i + 1 ≡ 1 + length (now_of (take i ls)) = omega arith in
    ap (λ (xs : List (Bor (List ℕ))). spoken_from 1 (now_of xs)) (take_more ls i d lt)
    ∙ (ap (spoken_from 1) (map-append (λ (l : Bor (List ℕ)). l.now) (take i ls) (get_or ls i d ∷ []))
    ∙ spoken_append 1 (i + 1) (now_of (take i ls)) ((get_or ls i d).now ∷ []) count)

pub lines_next : (files seen : Option Files) (old mid new : Option (List ℕ)) (ls : List (Bor (List ℕ))) (i : ℕ)
    (d : Bor (List ℕ)) (first middle last : Moment) (r q both : Bool) → i < length ls → seen ≡ files →
    Reported files old mid first (spoken_from 1 (now_of (take i ls))) middle r
    → Reported seen mid new middle (spoken_from (i + 1) ((get_or ls i d).now ∷ [])) last q → both ≡ (r || q) →
    Reported files old new first (spoken_from 1 (now_of (take (i + 1) ls))) last both
lines_next files seen old mid new ls i d first middle last r q both lt e h k b =
    rw (next_line ls i d lt) (rw b (reported_on files seen old mid new _ _ first middle last r q e h k))

-- the spoken lines up to here are the first of all
pub lines_first : (ls : List (Bor (List ℕ))) (i : ℕ) → (rest : List Line)
    × (spoken_from 1 (now_of ls) ≡ spoken_from 1 (now_of (take i ls)) ++ rest)
lines_first ls i = (
  spoken_from (1 + length (now_of (take i ls))) (now_of (drop i ls)),
  ap (λ (xs : List (Bor (List ℕ))). spoken_from 1 (now_of xs)) (sym (take-append-drop i ls))
      ∙ (ap (spoken_from 1) (map-append (λ (l : Bor (List ℕ)). l.now) (take i ls) (drop i ls))
      ∙ spoken_append 1 (1 + length (now_of (take i ls))) (now_of (take i ls)) (now_of (drop i ls)) refl),
)

pub part_next : (files seen : Option Files) (old mid new : Option (List ℕ)) (ls : List (Bor (List ℕ))) (i : ℕ)
    (d : Bor (List ℕ)) (first middle : Moment) (r : Bool) (misses : ℕ) (result : Status) → i < length ls
    → seen ≡ files →
    Reported files old mid first (spoken_from 1 (now_of (take i ls))) middle r
    → ReportedInPart seen mid new middle (spoken_from (i + 1) ((get_or ls i d).now ∷ [])) misses result →
    ReportedInPart files old new first (spoken_from 1 (now_of ls)) misses result
part_next files seen old mid new ls i d first middle r misses result lt e h k =
    let all = lines_first ls (i + 1) in
    rw (all.1, next_line ls i d lt)
    (part_more files old new _ all.0 first misses result
    (part_on files seen old mid new _ _ first middle r misses result e h k))
