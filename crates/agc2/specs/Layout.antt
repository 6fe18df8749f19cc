-- Sizes and places in bytes, as the C ABI of x86-64 has them. Definitions only.
use Rattle.agc2.specs.declared.layout.Agc2Layout.{Agc2Layout}

abbrev pub layout : Agc2Layout
layout = record {
  control_size = 320;
  control_state = 8;
  controller_size = 6712;
  controller_control = 8;
  controller_predictor = 328;
  config_size = 44;
  record_size = 16;
  predictor_config_size = 24;
  metrics_size = 20;
}
