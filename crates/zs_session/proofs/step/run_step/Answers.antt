use Rattle.std.proofs.Common.{rules, ◌≡◌, ◌<◌, true, ℕ, ◌-◌, ◌++◌, List, length, option_map, ap, refl, subst, ◌∙◌, arith}
use Rattle.std.proofs.lemmas.Grind.{common_steps}
use Rattle.zs_session.specs.Images.{AsksFirst}
use Rattle.zs_session.specs.Step.{is_step}
use Rattle.zs_session.proofs.Fetching.{behind_first}
use Rattle.zs_session.proofs.Endings.{ends_otherwise, no_fault, some_fault, may_touch, refuses_none, refuses_not, refuses, runs_lines, hands_back, hands_none, counts_some, counts_none, unmade_some, read_none, asks_some}
use Rattle.zs_session.proofs.step.run_step.Goals as goal

pub returns-in-Err-Bad-clause-fault : goal.returns-in-Err-Bad-clause-fault
returns-in-Err-Bad-clause-fault g c =
    some_fault (is_step c.args.words.now) (g.S.Source.left c.args.src.now) c.as_slice.result.now _ _ c.tell_fault.result.status (g.K.Sink.told c.args.out.now) (g.K.Sink.told c.tell_fault.new.out) c.tell_fault.ensures.status
    (λ script told. c.as_slice.ensures.value ∙ c.in-Ok.ensures.script script told) (rw c.in-Err-Bad.field-0-is at c.in-Err-Bad.ensures.exact) c.tell_fault.ensures.text.whole c.tell_fault.ensures.text.part

pub returns-in-Err-Bad-clause-refused : goal.returns-in-Err-Bad-clause-refused
returns-in-Err-Bad-clause-refused g c =
    refuses_not (is_step c.args.words.now) (g.S.Source.left c.args.src.now) g.B.Dev.Device.size g.B.Dev.Device.told c.as_slice.result.now _ _ (g.K.Sink.told c.args.out.now) (g.K.Sink.told c.tell_fault.new.out) c.tell_fault.result
    (λ three. grind (arith, c.tell_fault.ensures.status)) (λ script told. c.as_slice.ensures.value ∙ c.in-Ok.ensures.script script told) (rw c.in-Err-Bad.field-0-is at c.in-Err-Bad.ensures.exact)

pub returns-in-Ok-fetch_images-clause-fault : goal.returns-in-Ok-fetch_images-clause-fault
returns-in-Ok-fetch_images-clause-fault g c =
    let otherwise = ends_otherwise c.step_session.result.status c.step_session.ensures.status in
    no_fault (is_step c.args.words.now) (g.S.Source.left c.args.src.now) c.as_slice.result.now c.in-Ok-parse.lines.items c.step_session.result.status (g.K.Sink.told c.args.out.now) (g.K.Sink.told c.step_session.new.out) otherwise.1 (λ script told. c.as_slice.ensures.value ∙ c.in-Ok.ensures.script script told) c.in-Ok-parse.ensures.exact

pub returns-in-Ok-fetch_images-clause-refused : goal.returns-in-Ok-fetch_images-clause-refused
returns-in-Ok-fetch_images-clause-refused g c =
    refuses (is_step c.args.words.now) (g.S.Source.left c.args.src.now) g.B.Dev.Device.size g.B.Dev.Device.told c.as_slice.result.now c.in-Ok-parse.lines.items _ (g.K.Sink.told c.args.out.now) (g.K.Sink.told c.step_session.new.out) c.step_session.result
    (λ script told. c.as_slice.ensures.value ∙ c.in-Ok.ensures.script script told) c.in-Ok-parse.ensures.exact c.as_slice-in-Ok-fetch_images.ensures.value c.step_session.ensures.refused.unfit c.step_session.ensures.refused.cut

pub returns-in-Ok-fetch_images-clause-lines : goal.returns-in-Ok-fetch_images-clause-lines
returns-in-Ok-fetch_images-clause-lines g c =
    runs_lines (g.S.Source.left c.args.src.now) c.as_slice.result.now c.in-Ok-parse.lines.items _ c.step_session.result
    (λ script told. c.as_slice.ensures.value ∙ c.in-Ok.ensures.script script told) c.in-Ok-parse.ensures.exact c.as_slice-in-Ok-fetch_images.ensures.value c.step_session.ensures.lines.all c.step_session.ensures.lines.first

pub returns-in-Ok-fetch_images-clause-images : goal.returns-in-Ok-fetch_images-clause-images
returns-in-Ok-fetch_images-clause-images g c =
    let count : length c.fetch_images.new.lanes.items ≡ length c.args.words.now - 1 = grind (arith, common_steps, c.in-Ok-fetch_images.ensures.count) in
    hands_back (g.S.Source.left c.args.src.now) g.B.Dev.Device.size g.B.Dev.Device.told g.B.Dev.Device.faults (length c.args.words.now - 1) (g.B.Bay.left c.args.bay.now)
    (g.B.Bay.left c.fetch_images.new.bay) c.fetch_images.new.lanes.items c.as_slice.result.now c.in-Ok-parse.lines.items _ c.step_session.result
    (λ script told. c.as_slice.ensures.value ∙ c.in-Ok.ensures.script script told) c.in-Ok-parse.ensures.exact c.as_slice-in-Ok-fetch_images.ensures.value
    c.in-Ok-fetch_images.ensures.left c.fetch_images.ensures.first c.fetch_images.ensures.new count c.step_session.ensures.images c.step_session.ensures.refused.none

pub returns-in-Ok-fetch_images-clause-devices : goal.returns-in-Ok-fetch_images-clause-devices
returns-in-Ok-fetch_images-clause-devices g c =
    counts_some g.B.Dev.Device.faults (g.B.Bay.faults c.args.bay.now) (g.B.Bay.faults c.fetch_images.new.bay) c.step_session.result c.step_session.ensures.devices c.in-Ok-fetch_images.ensures.cause.ok

pub returns-in-Ok-fetch_images-clause-asked : goal.returns-in-Ok-fetch_images-clause-asked
returns-in-Ok-fetch_images-clause-asked g c =
    record {
      first = subst (λ (names : List (List ℕ)). AsksFirst names (g.B.Bay.asked c.args.bay.now) (g.B.Bay.asked c.fetch_images.new.bay)) (behind_first c.args.words.now) c.in-Ok-fetch_images.ensures.asked_cut;
      all = λ had. c.in-Ok-fetch_images.ensures.asked ∙ ap (λ names. option_map (λ asked. asked ++ names) (g.B.Bay.asked c.args.bay.now)) (behind_first c.args.words.now);
    }

pub returns-in-Ok-fetch_images-clause-untouched : goal.returns-in-Ok-fetch_images-clause-untouched
returns-in-Ok-fetch_images-clause-untouched g c =
    let form : is_step c.args.words.now ≡ true = grind (arith, common_steps) in
    let otherwise = ends_otherwise c.step_session.result.status c.step_session.ensures.status in
    may_touch (is_step c.args.words.now) (g.S.Source.left c.args.src.now) c.as_slice.result.now c.in-Ok-parse.lines.items c.step_session.result.status c.args.bay.now c.fetch_images.new.bay form otherwise.0 otherwise.1
    (λ script told. c.as_slice.ensures.value ∙ c.in-Ok.ensures.script script told) c.in-Ok-parse.ensures.exact

pub returns-in-Err-Failed-fetch_images-clause-untouched : goal.returns-in-Err-Failed-fetch_images-clause-untouched
returns-in-Err-Failed-fetch_images-clause-untouched g c =
    let form : is_step c.args.words.now ≡ true = grind (arith, common_steps) in
    may_touch (is_step c.args.words.now) (g.S.Source.left c.args.src.now) c.as_slice.result.now c.in-Ok-parse.lines.items c.without-in-Err-Failed-fetch_images.result.status c.args.bay.now c.fetch_images.new.bay form (λ five. omega (arith, five, c.without-in-Err-Failed-fetch_images.ensures.status)) (λ two. omega (arith, two, c.without-in-Err-Failed-fetch_images.ensures.status))
    (λ script told. c.as_slice.ensures.value ∙ c.in-Ok.ensures.script script told) c.in-Ok-parse.ensures.exact

pub returns-in-Err-Failed-fetch_images-clause-fault : goal.returns-in-Err-Failed-fetch_images-clause-fault
returns-in-Err-Failed-fetch_images-clause-fault g c =
    no_fault (is_step c.args.words.now) (g.S.Source.left c.args.src.now) c.as_slice.result.now c.in-Ok-parse.lines.items c.without-in-Err-Failed-fetch_images.result.status (g.K.Sink.told c.args.out.now) (g.K.Sink.told c.args.out.now) (λ two. omega (arith, two, c.without-in-Err-Failed-fetch_images.ensures.status))
    (λ script told. c.as_slice.ensures.value ∙ c.in-Ok.ensures.script script told) c.in-Ok-parse.ensures.exact

pub returns-in-Err-Failed-fetch_images-clause-refused : goal.returns-in-Err-Failed-fetch_images-clause-refused
returns-in-Err-Failed-fetch_images-clause-refused g c =
    refuses_none (is_step c.args.words.now) (g.S.Source.left c.args.src.now) g.B.Dev.Device.size g.B.Dev.Device.told (g.K.Sink.told c.args.out.now) (g.K.Sink.told c.args.out.now) c.without-in-Err-Failed-fetch_images.result (λ three. omega (arith, three, c.without-in-Err-Failed-fetch_images.ensures.status)) refl

pub returns-clause-untouched : goal.returns-clause-untouched
returns-clause-untouched g c =
    let form : is_step c.args.words.now ≡ true = grind (arith, common_steps) in
    may_touch (is_step c.args.words.now) (g.S.Source.left c.args.src.now) c.as_slice.result.now c.in-Ok-parse.lines.items c.without-in-Err-Memory-fetch_images.result.status c.args.bay.now c.fetch_images.new.bay form (λ five. omega (arith, five, c.without-in-Err-Memory-fetch_images.ensures.status)) (λ two. omega (arith, two, c.without-in-Err-Memory-fetch_images.ensures.status))
    (λ script told. c.as_slice.ensures.value ∙ c.in-Ok.ensures.script script told) c.in-Ok-parse.ensures.exact

pub returns-clause-fault : goal.returns-clause-fault
returns-clause-fault g c =
    no_fault (is_step c.args.words.now) (g.S.Source.left c.args.src.now) c.as_slice.result.now c.in-Ok-parse.lines.items c.without-in-Err-Memory-fetch_images.result.status (g.K.Sink.told c.args.out.now) (g.K.Sink.told c.args.out.now) (λ two. omega (arith, two, c.without-in-Err-Memory-fetch_images.ensures.status))
    (λ script told. c.as_slice.ensures.value ∙ c.in-Ok.ensures.script script told) c.in-Ok-parse.ensures.exact

pub returns-clause-refused : goal.returns-clause-refused
returns-clause-refused g c =
    refuses_none (is_step c.args.words.now) (g.S.Source.left c.args.src.now) g.B.Dev.Device.size g.B.Dev.Device.told (g.K.Sink.told c.args.out.now) (g.K.Sink.told c.args.out.now) c.without-in-Err-Memory-fetch_images.result (λ three. omega (arith, three, c.without-in-Err-Memory-fetch_images.ensures.status)) refl

pub returns-in-Err-Failed-clause-refused : goal.returns-in-Err-Failed-clause-refused
returns-in-Err-Failed-clause-refused g c =
    refuses_none (is_step c.args.words.now) (g.S.Source.left c.args.src.now) g.B.Dev.Device.size g.B.Dev.Device.told (g.K.Sink.told c.args.out.now) (g.K.Sink.told c.args.out.now) c.without.result (λ three. omega (arith, three, c.without.ensures.status)) refl

pub returns-in-Err-Memory-clause-refused : goal.returns-in-Err-Memory-clause-refused
returns-in-Err-Memory-clause-refused g c =
    refuses_none (is_step c.args.words.now) (g.S.Source.left c.args.src.now) g.B.Dev.Device.size g.B.Dev.Device.told (g.K.Sink.told c.args.out.now) (g.K.Sink.told c.args.out.now) c.without-in-Err-Memory.result (λ three. omega (arith, three, c.without-in-Err-Memory.ensures.status)) refl

pub returns-in-Err-Memory-parse-clause-refused : goal.returns-in-Err-Memory-parse-clause-refused
returns-in-Err-Memory-parse-clause-refused g c =
    refuses_none (is_step c.args.words.now) (g.S.Source.left c.args.src.now) g.B.Dev.Device.size g.B.Dev.Device.told (g.K.Sink.told c.args.out.now) (g.K.Sink.told c.args.out.now) c.without-in-Err-Memory-parse.result (λ three. omega (arith, three, c.without-in-Err-Memory-parse.ensures.status)) refl

pub returns-in-Ok-fetch_images-clause-unmade : goal.returns-in-Ok-fetch_images-clause-unmade
returns-in-Ok-fetch_images-clause-unmade g c =
    let count : length c.fetch_images.new.lanes.items ≡ length c.args.words.now - 1 = grind (arith, common_steps, c.in-Ok-fetch_images.ensures.count) in
    unmade_some g.B.Dev.Device.size g.B.Dev.Device.told g.B.Dev.Device.faults (length c.args.words.now - 1) (g.B.Bay.faults c.args.bay.now) (g.B.Bay.faults c.fetch_images.new.bay) (g.K.Sink.told c.args.out.now) (g.K.Sink.told c.step_session.new.out)
    c.fetch_images.new.lanes.items _ c.step_session.result count c.step_session.ensures.images c.step_session.ensures.refused

pub returns-in-Err-Failed-fetch_images-clause-asked : goal.returns-in-Err-Failed-fetch_images-clause-asked
returns-in-Err-Failed-fetch_images-clause-asked g c =
    let few : length c.fetch_images.new.lanes.items < length c.args.words.now - 1 = grind (arith, common_steps, c.in-Err-Failed-fetch_images.ensures.fewer) in
    asks_some _ (length c.args.words.now - 1) (g.B.Bay.asked c.args.bay.now) (g.B.Bay.asked c.fetch_images.new.bay) c.fetch_images.new.lanes.items c.without-in-Err-Failed-fetch_images.result
    (λ three. omega (arith, three, c.without-in-Err-Failed-fetch_images.ensures.status)) c.without-in-Err-Failed-fetch_images.ensures.session c.without-in-Err-Failed-fetch_images.ensures.lanes few
    (subst (λ (names : List (List ℕ)). AsksFirst names (g.B.Bay.asked c.args.bay.now) (g.B.Bay.asked c.fetch_images.new.bay)) (behind_first c.args.words.now) c.in-Err-Failed-fetch_images.ensures.asked_cut)

pub returns-in-Err-Failed-fetch_images-clause-images : goal.returns-in-Err-Failed-fetch_images-clause-images
returns-in-Err-Failed-fetch_images-clause-images g c =
    let few : length c.fetch_images.new.lanes.items < length c.args.words.now - 1 = grind (arith, common_steps, c.in-Err-Failed-fetch_images.ensures.fewer) in
    hands_none (g.S.Source.left c.args.src.now) g.B.Dev.Device.size g.B.Dev.Device.told g.B.Dev.Device.faults (length c.args.words.now - 1) (g.B.Bay.left c.args.bay.now) c.fetch_images.new.lanes.items c.without-in-Err-Failed-fetch_images.result
    c.without-in-Err-Failed-fetch_images.ensures.session c.without-in-Err-Failed-fetch_images.ensures.lanes (λ three. omega (arith, three, c.without-in-Err-Failed-fetch_images.ensures.status))
    (read_none (length c.args.words.now - 1) c.fetch_images.new.lanes.items c.without-in-Err-Failed-fetch_images.result c.without-in-Err-Failed-fetch_images.ensures.lanes few)
    c.in-Err-Failed-fetch_images.ensures.first c.in-Err-Failed-fetch_images.ensures.new

pub returns-in-Err-Failed-fetch_images-clause-devices : goal.returns-in-Err-Failed-fetch_images-clause-devices
returns-in-Err-Failed-fetch_images-clause-devices g c =
    counts_none g.B.Dev.Device.faults (g.B.Bay.faults c.args.bay.now) (g.B.Bay.faults c.fetch_images.new.bay) c.fetch_images.new.lanes.items c.without-in-Err-Failed-fetch_images.result
    c.without-in-Err-Failed-fetch_images.ensures.session c.without-in-Err-Failed-fetch_images.ensures.lanes c.in-Err-Failed-fetch_images.ensures.new
    (λ four. search rules) (λ other. absurd (other c.without-in-Err-Failed-fetch_images.ensures.status))

pub returns-clause-images : goal.returns-clause-images
returns-clause-images g c =
    hands_none (g.S.Source.left c.args.src.now) g.B.Dev.Device.size g.B.Dev.Device.told g.B.Dev.Device.faults (length c.args.words.now - 1) (g.B.Bay.left c.args.bay.now) c.fetch_images.new.lanes.items c.without-in-Err-Memory-fetch_images.result
    c.without-in-Err-Memory-fetch_images.ensures.session c.without-in-Err-Memory-fetch_images.ensures.lanes (λ three. omega (arith, three, c.without-in-Err-Memory-fetch_images.ensures.status))
    (λ stops. omega (arith, stops.0, c.without-in-Err-Memory-fetch_images.ensures.status)) c.fetch_images.ensures.first c.fetch_images.ensures.new

pub returns-clause-devices : goal.returns-clause-devices
returns-clause-devices g c =
    counts_none g.B.Dev.Device.faults (g.B.Bay.faults c.args.bay.now) (g.B.Bay.faults c.fetch_images.new.bay) c.fetch_images.new.lanes.items c.without-in-Err-Memory-fetch_images.result
    c.without-in-Err-Memory-fetch_images.ensures.session c.without-in-Err-Memory-fetch_images.ensures.lanes c.fetch_images.ensures.new
    (λ four. omega (arith, four, c.without-in-Err-Memory-fetch_images.ensures.status)) (λ other. search rules)
