-- What a line spells decides what it does.
use Rattle.std.proofs.Common.{◌≡◌, ℕ, List, [], refl, sym, ap, subst, ◌∙◌, length, map, Bool, true, false, Option, Ok, Err}
use Rattle.trace_records.proofs.Common.{length-map, Settings, Setup, setup_by, Request, Refusal, History, Effect, Tables, tables, effect_of, PipelineState, StandsFor, IsServedByHistory, is_for_memory, opening_read, Told, settings_spelled, request_spelled, effect_of_line, effect_of_request, HasRefusalLine, OpenedPipeline, RequestAnswer, allows_lanes, setup_of_settings, setup_of_line, lane_spelled, Opens, AnswersRequest}
use Rattle.std.proofs.lemmas.Bool.{true≢false}
use Rattle.span_script.specs.declared.reply.Refusal.TheVariants as refusal
use Rattle.trace_lines.specs.declared.told.Told.TheVariants as told

-- the refusal of a step has a line but for want of memory
pub told_step : (why : Refusal) → is_for_memory why ≡ false → HasRefusalLine (told.Step why)
told_step why other is = let same : why ≡ refusal.Memory = cc in true≢false (sym (ap is_for_memory same) ∙ other)

-- ---- the settings line

pub not_settings : (most : Option ℕ) (text : List ℕ) (why : Told) → settings_spelled text ≡ Err why → setup_of_line most text ≡ Err why
unfolding setup_of_line
not_settings most text why is = ap (setup_of_settings most) is

pub not_read : (most : Option ℕ) (text : List ℕ) (settings : Settings) (counting : Bool) (piece : ℕ) → settings_spelled text ≡ Ok settings
    → opening_read settings.filter settings.counting ≡ Err (counting, piece) → setup_of_line most text ≡ Err (told.Directive counting piece)
unfolding setup_of_line
not_read most text settings counting piece is why = rw (is, why) refl

pub too_many : (most : Option ℕ) (text : List ℕ) (settings : Settings) → settings_spelled text ≡ Ok settings
    → opening_read settings.filter settings.counting ≡ Ok tt → allows_lanes most (length settings.lanes) ≡ false → setup_of_line most text ≡ Err told.Lanes
unfolding setup_of_line
too_many most text settings is read many = rw (is, read, many) refl

pub read_whole : (most : Option ℕ) (text : List ℕ) (settings : Settings) → settings_spelled text ≡ Ok settings
    → opening_read settings.filter settings.counting ≡ Ok tt → allows_lanes most (length settings.lanes) ≡ true → setup_of_line most text ≡ Ok (setup_by settings)
unfolding setup_of_line
read_whole most text settings is read few = rw (is, read, few) refl

pub opens : (most : Option ℕ) (text : List ℕ) (settings : Settings) (opened : OpenedPipeline) → settings_spelled text ≡ Ok settings
    → opening_read settings.filter settings.counting ≡ Ok tt → allows_lanes most opened.lane_count ≡ true → opened.lane_count ≡ length settings.lanes
    → opened.pipeline.setup ≡ setup_by settings → StandsFor opened.pipeline (tables (setup_by settings) [])
    → opened.pipeline.recording.finished ≡ [] → opened.pipeline.measures ≡ [] → Opens most text opened
opens most text settings opened is read few count setup stands records measures = record {
  setup = read_whole most text settings is read (ap (allows_lanes most) (sym count) ∙ few) ∙ ap Ok (sym setup);
  stands = subst (λ (s : Setup). StandsFor opened.pipeline (tables s [])) (sym setup) stands;
  records = records;
  measures = measures;
  lanes = count ∙ sym (length-map settings.lanes (λ (l : ℕ × Option (List ℕ)). l.0)) ∙ sym (ap (λ (s : Setup). length s.ids) setup);
}

-- ---- a request line

pub not_request : (setup : Setup) (t : Tables) (text : List ℕ) (why : Told) → request_spelled text ≡ Err why → effect_of_line setup t text ≡ Err why
unfolding effect_of_line
not_request setup t text why is = ap (effect_of_request setup t) is

pub not_served : (setup : Setup) (t : Tables) (text : List ℕ) (request : Request) (why : Refusal) → request_spelled text ≡ Ok request
    → effect_of setup t request ≡ Err why → effect_of_line setup t text ≡ Err (told.Step why)
unfolding effect_of_line
not_served setup t text request why is none = rw (is, none) refl

stepped : (setup : Setup) (t : Tables) (text : List ℕ) (request : Request) (effect : Effect) → request_spelled text ≡ Ok request
    → effect_of setup t request ≡ Ok effect → effect_of_line setup t text ≡ Ok effect
unfolding effect_of_line
stepped setup t text request effect is does = rw (is, does) refl

pub answers : (text : List ℕ) (h : History) (old new : PipelineState) (request : Request) (answered : RequestAnswer) → request_spelled text ≡ Ok request
    → answered.lane_place ≡ request.lane_place → IsServedByHistory (effect_of old.setup (tables old.setup h) request) h old new answered.reply → AnswersRequest text h old new answered
answers text h old new request answered is lane did = record {
  effect = did.effect;
  is = stepped old.setup (tables old.setup h) text request did.effect is did.is;
  lane = lane ∙ sym (ap lane_spelled is);
  reply_is = did.reply_is;
  setup = did.setup;
  records = did.records;
  measures = did.measures;
  stands = did.stands;
}
