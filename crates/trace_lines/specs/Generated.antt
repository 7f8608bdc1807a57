-- The script that is made for a number of rounds: its settings, its requests and its lines.
use Rattle.std.specs.Prelude.{ℕ, ◌+◌, ◌*◌, ◌%◌, pos, List, [], ◌∷◌, ◌++◌, map, flat_map, Some, None, codes}
use Rattle.std.specs.List.{range_with_len}
use Rattle.serde_json.specs.Data.{Data, string, object, Members}
use Rattle.serde_json.specs.Written.{compact_text}
use Rattle.otel_state.specs.Settings.{default_settings}
use Rattle.trace_base.specs.declared.callsite.Callsite.{Callsite}
use Rattle.trace_base.specs.declared.callsite.Kind.{Kind}
use Rattle.trace_base.specs.declared.callsite.Kind.TheVariants as kind
use Rattle.trace_base.specs.declared.field.Value.{Value}
use Rattle.trace_base.specs.declared.field.Value.TheVariants.{I64, Str}
use Rattle.trace_base.specs.declared.level.Level.TheVariants.{INFO}
use Rattle.span_script.specs.declared.request.Call.{Call}
use Rattle.span_script.specs.declared.request.Call.TheVariants as call
use Rattle.span_script.specs.declared.request.RequestParent.TheVariants as request_parent
use Rattle.span_script.specs.declared.request.Request.{Request}
use Rattle.span_script.specs.declared.settings.Settings.{Settings}
use Rattle.span_script.specs.Setups.{Setup, setup_by}
use Rattle.trace_lines.specs.reading.Object.{by_name, whole_number}
use Rattle.trace_lines.specs.values.RequestData.{number_member, parent_member, word_of, members_of_call}

-- ---- the settings

-- a callsite at the level INFO, of which no place in a file is known
abbrev pub generated_site : List ℕ → List ℕ → Kind → List (List ℕ) → Callsite
generated_site name target what fields = record {
  name = name;
  target = target;
  level = INFO;
  kind = what;
  file = None;
  module_path = None;
  line = None;
  fields = fields;
}

-- the callsites of a request's span, of the one below it, and of a row's event
abbrev pub web_request_site : Callsite
web_request_site = generated_site (codes "request") (codes "web") kind.Span (codes "otel.kind" ∷ codes "id" ∷ [])

abbrev pub query_site : Callsite
query_site = generated_site (codes "query") (codes "web::db") kind.Span []

abbrev pub row_site : Callsite
row_site = generated_site (codes "row") (codes "web::db") kind.Event (codes "message" ∷ [])

abbrev pub generated_settings : Settings
generated_settings = record {
  filter = codes "info";
  counting = None;
  lanes = (1, Some (codes "a")) ∷ (2, Some (codes "b")) ∷ [];
  callsites = web_request_site ∷ query_site ∷ row_site ∷ [];
  layer = default_settings;
}

abbrev pub generated_settings_line : List ℕ
generated_settings_line = codes "{\"callsites\":[{\"fields\":[\"otel.kind\",\"id\"],\"kind\":\"span\",\"level\":\"info\",\"name\":\"request\",\"target\":\"web\"},{\"fields\":[],\"kind\":\"span\",\"level\":\"info\",\"name\":\"query\",\"target\":\"web::db\"},{\"fields\":[\"message\"],\"kind\":\"event\",\"level\":\"info\",\"name\":\"row\",\"target\":\"web::db\"}],\"filter\":\"info\",\"lanes\":[{\"id\":1,\"name\":\"a\"},{\"id\":2,\"name\":\"b\"}]}"

abbrev pub generated_setup : Setup
generated_setup = setup_by generated_settings

-- ---- the requests

-- a call so many nanoseconds after the beginning of a round, on the lanes in turn
abbrev pub request_in_round : ℕ → ℕ → Call → Request
request_in_round i later said = record { at = 1000 * i + later; lane_place = i % 2; call = said }

abbrev pub root_fields : ℕ → List (List ℕ × Value)
root_fields i = (codes "otel.kind", Str (codes "server")) ∷ (codes "id", I64 (pos i)) ∷ []

abbrev pub row_fields : List (List ℕ × Value)
row_fields = (codes "message", Str (codes "row")) ∷ []

-- A round makes a span and enters it, makes one below it and enters that, records an event there, and exits and
-- drops both.
abbrev pub round_with : ℕ → List (List ℕ × Value) → List (List ℕ × Value) → List (List ℕ × Value) → List Request
round_with i root below row =
    request_in_round i 0 (call.New 0 request_parent.Root root)
    ∷ request_in_round i 10 (call.Enter (2 * i))
    ∷ request_in_round i 20 (call.New 1 request_parent.Contextual below)
    ∷ request_in_round i 30 (call.Enter (2 * i + 1))
    ∷ request_in_round i 40 (call.Event 2 request_parent.Contextual row)
    ∷ request_in_round i 50 (call.Exit (2 * i + 1))
    ∷ request_in_round i 60 (call.Drop (2 * i + 1))
    ∷ request_in_round i 70 (call.Exit (2 * i))
    ∷ request_in_round i 80 (call.Drop (2 * i)) ∷ []

abbrev pub requests_of_round : ℕ → List Request
requests_of_round i = round_with i (root_fields i) [] row_fields

-- the requests of so many rounds from one on
abbrev pub requests_of_rounds : ℕ → ℕ → List Request
requests_of_rounds first n = flat_map requests_of_round (range_with_len first n)

abbrev pub generated_requests : ℕ → List Request
generated_requests n = requests_of_rounds 0 n

-- ---- the lines

-- what a line says of a call: no fields where there are none
abbrev pub call_members : Call → List (List ℕ × Data)
call_members (call.New site put []) = number_member (codes "site") site ++ parent_member put
call_members other = members_of_call other

-- the line of a request: an object's compact text
abbrev pub request_members : Request → Members
request_members request = by_name (
    (codes "at", whole_number request.at) ∷
    (codes "lane", whole_number request.lane_place) ∷
    (codes "do", string (word_of request.call)) ∷ call_members request.call)

abbrev pub request_line : Request → List ℕ
request_line request = compact_text (object (request_members request))

abbrev pub generated_lines : ℕ → List (List ℕ)
generated_lines n = generated_settings_line ∷ map request_line (generated_requests n)

-- each line ends by a line feed
abbrev pub generated_script : ℕ → List ℕ
generated_script n = flat_map (λ (line : List ℕ). line ++ 10 ∷ []) (generated_lines n)
